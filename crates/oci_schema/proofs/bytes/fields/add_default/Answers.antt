use Rattle.serde_json.specs.Data.{null}
use Rattle.oci_model.specs.Value.{value}
use Rattle.oci_schema.specs.Shapes.{schema_shape, default_plain}
use Rattle.oci_schema.specs.declared.presence.Presence.TheVariants.{Nullable, Defaulted}
use Rattle.oci_schema.proofs.Adding.{adds_as}
use Rattle.oci_schema.proofs.Presences.{written_as, accepted_as}
use Rattle.oci_schema.proofs.bytes.fields.add_default.Goals as goal

pub returns-in-Nullable : goal.returns-in-Nullable
returns-in-Nullable c = λ t f d b absent.
    let m = c.args.member.now in
    let is = written_as f m Nullable c.in-Nullable.is in
    adds_as f d m.name.now _ _ _ _ c.args.object.now c.add_without_value.new.object is (λ h. accepted_as f m Nullable c.in-Nullable.is) (c.add_without_value.ensures t f d null b absent is)

pub returns-in-Defaulted : goal.returns-in-Defaulted
returns-in-Defaulted c = λ t f d b absent.
    let m = c.args.member.now in
    let x = c.in-Defaulted.field-0 in
    let is = written_as f m (Defaulted x) c.in-Defaulted.is in
    adds_as f d m.name.now _ _ _ _ c.args.object.now c.add_without_value-in-Defaulted.new.object is (λ h. accepted_as f m (Defaulted x) c.in-Defaulted.is)
    (c.add_without_value-in-Defaulted.ensures t f d (value (schema_shape f m.schema) (default_plain x)) b absent is)
