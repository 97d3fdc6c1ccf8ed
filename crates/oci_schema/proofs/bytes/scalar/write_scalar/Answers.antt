use Rattle.std.proofs.Common.{sym, subst}
use Rattle.oci_schema.specs.Shapes.{scalar_shape}
use Rattle.oci_schema.proofs.FieldWalk.{if_done}
use Rattle.oci_json_tape.proofs.Sinks.{kept}
use Rattle.oci_schema.proofs.Written.{Wrote, text_written, boolean_written, whole_written}
use Rattle.oci_schema.proofs.bytes.scalar.write_scalar.Goals as goal

pub returns-in-Some : goal.returns-in-Some
returns-in-Some g c =
    if_done c.write_boolean.result _ _ c.write_boolean.ensures
    (λ w. kept w (λ a b w d begins. subst (λ x. Wrote (scalar_shape x) a b d) (sym c.in-Boolean.is) (boolean_written d c.in-Some.truth a b (sym (c.in-Some.ensures d begins)) w)))

pub returns-in-Some-number : goal.returns-in-Some-number
returns-in-Some-number g c =
    if_done c.write_number.result _ _ c.write_number.ensures
    (λ w. kept w (λ a b w d begins. subst (λ x. Wrote (scalar_shape x) a b d) (sym c.in-Integer.is) (whole_written c.in-Integer.low c.in-Integer.high d _ a b (sym (c.in-Some-number.ensures d begins)) w)))

pub returns-else-not-is_text_of : goal.returns-else-not-is_text_of
returns-else-not-is_text_of g c =
    if_done c.write_string.result _ _ c.write_string.ensures
    (λ w. kept w (λ a b w d begins. text_written (scalar_shape c.args.scalar.now) d c.in-Some-text.content.now a b (sym (c.in-Some-text.ensures d begins)) (c.is_text_of.ensures c.if-not-is_text_of.false) w))
