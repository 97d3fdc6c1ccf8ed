-- The members of a record that are written, in byte order of their names.
use Rattle.std.specs.Prelude.{◌≡◌, ℕ, List, [], ◌∷◌, Bool, true, Option, Some, None, MatchOption, ⊤}
use Rattle.std.specs.Borrow.{Bor}
use Rattle.json.specs.Token.{Token}
use Rattle.serde_json.specs.Data.{Data, Members, no_members, member}
use Rattle.oci_model.specs.Shape.{Shape, Rows}
use Rattle.oci_model.specs.Value.{value}
use Rattle.oci_json_tape.specs.Elements.{BeginsWithData}
use Rattle.oci_schema.specs.Shapes.{presence_of, schema_shape}
use Rattle.oci_schema.specs.declared.record.Member.{Member}
use Rattle.oci_schema.specs.Allows.{member_allowed}
use Rattle.oci_schema.specs.Normalized.{accepts, rows_accept, normalized, normalized_member, normalized_rows}

-- A member that is written: where its value stands, or none if what is written is that of an absent member.
pub record Field : Type 0 where
  pub member : Bor Member
  pub value : Option (List Token)

-- what is written for a member by its found value
abbrev pub written_for : (ℕ → Shape) → Member → Option Data → Option Data
written_for f m found = normalized_member (presence_of m.presence) (value (schema_shape f m.schema)) (normalized (schema_shape f m.schema)) found

-- whether the member's found value is accepted
abbrev pub accepted_for : (ℕ → Shape) → Member → Option Data → Bool
accepted_for f m found = member_allowed (presence_of m.presence) (accepts (schema_shape f m.schema)) found

-- n is written for the field
abbrev pub FieldMeans : (ℕ → Shape) → Field → Data → Type 0
FieldMeans f e n = MatchOption e.value (written_for f e.member.now None ≡ Some n) (λ ts. (d : Data) × BeginsWithData ts d × (n ≡ normalized (schema_shape f e.member.now.schema) d))

-- the fields are these members
abbrev pub EachField : (ℕ → Shape) → List Field → Members → Type 0
EachField f [] no_members = ⊤
EachField f [] (member k n ms) = ⊥
EachField f (e ∷ es) no_members = ⊥
EachField f (e ∷ es) (member k n ms) = (e.member.now.name.now ≡ k) × FieldMeans f e n × EachField f es ms

-- the field's value is accepted, if it has one
abbrev pub FieldIsAccepted : (ℕ → Shape) → Field → Type 0
FieldIsAccepted f e = MatchOption e.value ⊤ (λ ts. (d : Data) → BeginsWithData ts d → accepts (schema_shape f e.member.now.schema) d ≡ true)

abbrev pub AreAccepted : (ℕ → Shape) → List Field → Type 0
AreAccepted f [] = ⊤
AreAccepted f (e ∷ es) = FieldIsAccepted f e × AreAccepted f es

-- the fields are what is written for the object d by the members rs, which accept it if each value is accepted
abbrev pub AreFieldsOf : (ℕ → Shape) → Rows → Data → List Field → Type 0
AreFieldsOf f rs d es = EachField f es (normalized_rows rs d no_members) × (AreAccepted f es → rows_accept rs d ≡ true)
