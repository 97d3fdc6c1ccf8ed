use Rattle.std.proofs.Common.{◌≡◌, drop}
use Rattle.oci_base.specs.Names.{is_listed}
use Rattle.oci_rules.specs.Tables.{texts_of}
use Rattle.oci_policies.proofs.values.is_among.Given as goal

abbrev pub invariant-loop-other : goal.invariant-loop-other
invariant-loop-other l = is_listed (texts_of l.names) l.name ≡ is_listed (texts_of (drop l.other-index l.names)) l.name
