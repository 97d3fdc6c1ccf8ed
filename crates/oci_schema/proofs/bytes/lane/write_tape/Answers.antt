use Rattle.std.proofs.Common.{sym, subst}
use Rattle.oci_json_tape.specs.Elements.{BeginsWithData}
use Rattle.oci_json_tape.proofs.Sinks.{kept}
use Rattle.oci_schema.proofs.FieldWalk.{if_done}
use Rattle.oci_schema.proofs.bytes.lane.write_tape.Goals as goal

pub returns : goal.returns
returns g c = if_done c.write_value.result _ _ c.write_value.ensures (λ w. kept w (λ a b wrote d begins. wrote d (subst (λ ts. BeginsWithData ts d) (sym c.root.ensures.same) begins)))
