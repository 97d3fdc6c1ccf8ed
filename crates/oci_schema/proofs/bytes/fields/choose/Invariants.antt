use Rattle.std.proofs.Common.{◌≡◌, ℕ, [], drop}
use Rattle.serde_json.specs.Data.{Data}
use Rattle.oci_model.specs.Shape.{Shape}
use Rattle.oci_schema.specs.Objects.{IsObject, fields_in}
use Rattle.oci_schema.specs.Shapes.{members_in}
use Rattle.oci_schema.proofs.FieldWalk.{FieldsSoFar}
use Rattle.oci_schema.proofs.bytes.fields.choose.Given as goal

abbrev pub invariant-loop-member : goal.invariant-loop-member
invariant-loop-member l =
    fields_in l.fn.object.slots.items ≡ [] → (f : ℕ → Shape) (d : Data) → IsObject l.fn.object d
    → IsObject l.object d × FieldsSoFar f d (members_in f l.members) (members_in f (drop l.member-index l.members)) (fields_in l.object.slots.items)
