use Rattle.std.proofs.Common.{sym, ap, ◌∙◌, subst}
use Rattle.json.proofs.Found.{Some_inj}
use Rattle.serde_json.specs.Data.{null}
use Rattle.oci_model.specs.Value.{value}
use Rattle.oci_schema.specs.Shapes.{part_shape, schema_shape, default_plain}
use Rattle.oci_schema.specs.declared.presence.Presence.TheVariants.{Nullable, Defaulted}
use Rattle.oci_schema.specs.Walks.{WritesTree}
use Rattle.oci_schema.proofs.FieldWalk.{if_done}
use Rattle.oci_schema.proofs.Presences.{written_as}
use Rattle.oci_json_tape.proofs.Sinks.{kept}
use Rattle.oci_schema.proofs.bytes.absent.write_absent.Goals as goal

pub returns-in-Nullable : goal.returns-in-Nullable
returns-in-Nullable g c =
    if_done c.write_null.result _ _ c.write_null.ensures
    (λ w. kept w (λ a b w f n e. subst (λ x. WritesTree x a b) (Some_inj null n (sym (written_as f c.args.member.now Nullable c.in-Nullable.is) ∙ e)) w))

pub returns-in-Scalar : goal.returns-in-Scalar
returns-in-Scalar g c =
    let m = c.args.member.now in
    let x = c.in-Defaulted.default in
    if_done c.write_default.result _ _ c.write_default.ensures
    (λ w. kept w (λ a b w f n e.
    subst (λ y. WritesTree y a b) (sym (ap (λ s. value (schema_shape f s) (default_plain x)) c.in-One.is ∙ ap (λ p. value (part_shape f p) (default_plain x)) c.in-Scalar.is) ∙ Some_inj (value (schema_shape f m.schema) (default_plain x)) n (sym (written_as f m (Defaulted x) c.in-Defaulted.is) ∙ e)) w))
