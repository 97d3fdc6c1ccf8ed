use Rattle.oci_schema.proofs.FieldWalk.{if_done}
use Rattle.oci_schema.proofs.NormalSets.{set_written}
use Rattle.oci_json_tape.proofs.Sinks.{kept}
use Rattle.oci_schema.proofs.bytes.walk.write_capabilities.Goals as goal

pub returns-then-is_normal_set : goal.returns-then-is_normal_set
returns-then-is_normal_set g c =
    if_done c.write_strings.result _ _ c.write_strings.ensures (λ w. kept w (λ a b wrote d begins. set_written d a b (c.is_normal_set.ensures c.if-is_normal_set.true d begins) (wrote d begins)))
