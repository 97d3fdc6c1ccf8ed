use Rattle.std.proofs.Common.{◌≡◌, drop}
use Rattle.oci_layout.specs.Memory.{content_of}
use Rattle.oci_layout.proofs.memory.find.Given as goal

abbrev pub invariant-kept : goal.invariant-kept
invariant-kept l = content_of (drop l.one-index l.kept) l.name ≡ content_of l.kept l.name
