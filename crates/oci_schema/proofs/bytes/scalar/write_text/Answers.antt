use Rattle.std.proofs.Common.{sym}
use Rattle.oci_model.specs.Shape.{text}
use Rattle.oci_schema.proofs.FieldWalk.{if_done}
use Rattle.oci_json_tape.proofs.Sinks.{kept}
use Rattle.oci_schema.proofs.Written.{text_written}
use Rattle.oci_schema.proofs.bytes.scalar.write_text.Goals as goal

pub returns-in-Some : goal.returns-in-Some
returns-in-Some g c =
    if_done c.write_string.result _ _ c.write_string.ensures (λ w. kept w (λ a b w d begins. text_written text d c.in-Some.content.now a b (sym (c.in-Some.ensures d begins)) tt w))
