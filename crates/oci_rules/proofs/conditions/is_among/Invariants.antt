use Rattle.std.proofs.Common.{◌≡◌, drop}
use Rattle.oci_base.specs.Names.{is_listed}
use Rattle.oci_rules.specs.Tables.{texts_of}
use Rattle.oci_rules.proofs.conditions.is_among.Given as goal

abbrev pub invariant-loop-other : goal.invariant-loop-other
invariant-loop-other l = is_listed (texts_of l.texts) l.text ≡ is_listed (texts_of (drop l.other-index l.texts)) l.text
