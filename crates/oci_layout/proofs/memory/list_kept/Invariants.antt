use Rattle.std.proofs.Common.{take}
use Rattle.oci_layout.proofs.Names.{AreNamesOf}
use Rattle.oci_layout.proofs.memory.list_kept.Given as goal

abbrev pub invariant-each : goal.invariant-each
invariant-each l = AreNamesOf (take l.place l.kept) l.listed.items
