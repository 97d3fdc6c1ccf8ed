use Rattle.std.proofs.Common.{sym, ◌∙◌}
use Rattle.oci_schema.proofs.Slots.{none_of}
use Rattle.oci_schema.proofs.bytes.object.Object.has.Goals as goal

pub returns : goal.returns
returns c = λ t d b. none_of c.find.result _ _ (sym c.is_some.ensures ∙ t) c.find.ensures d b
