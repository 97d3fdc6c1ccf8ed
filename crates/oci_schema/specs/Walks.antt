-- What a walk over a tape writes: the tokens of normal forms.
use Rattle.std.specs.Prelude.{◌≡◌, ℕ, ℤ, List, ◌∷◌, ◌++◌, length, Bool, true, Option, Some, None, ⊤}
use Rattle.std.specs.Borrow.{Bor}
use Rattle.std.specs.Ordering.{nat_cmp}
use Rattle.std.specs.declared.cmp.Ordering.TheVariants.{Greater}
use Rattle.std.specs.Cmp.Lexicographic.{slice_cmp}
use Rattle.json.specs.Token.{Token, begin_object}
use Rattle.json.specs.Tree.{json_tokens, members_tokens}
use Rattle.serde_json.specs.Data.{Num, Data, number, array, Members}
use Rattle.serde_json.specs.Find.{as_integer, of_integer}
use Rattle.serde_json.specs.Written.{outline, members_outline}
use Rattle.oci_base.specs.Names.{is_listed}
use Rattle.oci_json.specs.Readable.{IsReadable, HoldReadable}
use Rattle.oci_model.specs.Shape.{Shape, text, named, open_name, digest_text, cpu_text}
use Rattle.oci_model.specs.Value.{capability_texts}
use Rattle.oci_json_tape.specs.Elements.{BeginsWithData}
pub use Rattle.oci_json_tape.specs.Sinks.{Writes}
pub use Rattle.oci_json_tape.specs.Values.{IfDone}
use Rattle.oci_text.specs.Capability.{capability_table}
use Rattle.oci_text.specs.CpuScan.{is_cpu_text}
use Rattle.oci_schema.specs.Allows.{is_digest_text, is_in_range}
use Rattle.oci_schema.specs.Normalized.{accepts, normalized}
use Rattle.oci_schema.specs.Fields.{Field, FieldMeans, EachField, FieldIsAccepted, AreAccepted}

-- the tree, which is one that a text may be read as, was written
abbrev pub WritesTree : Data → List Token → List Token → Type 0
WritesTree n old new = (new ≡ old ++ json_tokens (outline n)) × IsReadable n

-- an object of the members was written, which hold such trees
abbrev pub WritesMembers : Members → List Token → List Token → Type 0
WritesMembers ms old new = (new ≡ old ++ begin_object ∷ members_tokens (members_outline ms)) × HoldReadable ms

-- the value with which `ts` begins is accepted, and its normal form was written
abbrev pub WritesNormal : Shape → List Token → List Token → List Token → Type 0
WritesNormal s ts old new = (d : Data) → BeginsWithData ts d → (accepts s d ≡ true) × WritesTree (normalized s d) old new

-- a value of which P holds is accepted, and its normal form was written
abbrev pub WritesOf : (Data → Type 0) → Shape → List Token → List Token → Type 0
WritesOf P s old new = (d : Data) × P d × (accepts s d ≡ true) × WritesTree (normalized s d) old new

-- the field's value is accepted, and what it means was written
abbrev pub WritesField : (ℕ → Shape) → Field → List Token → List Token → Type 0
WritesField f e old new = FieldIsAccepted f e × ((n : Data) → FieldMeans f e n → WritesTree n old new)

-- the fields' values are accepted, and an object of what they mean was written
abbrev pub WritesFields : (ℕ → Shape) → List Field → List Token → List Token → Type 0
WritesFields f es old new = AreAccepted f es × ((ms : Members) → EachField f es ms → WritesMembers ms old new)

-- the name comes after the last one, by bytes
abbrev pub IsAfter : List ℕ → Option (Bor (List ℕ)) → Type 0
IsAfter name None = ⊤
IsAfter name (Some last) = slice_cmp nat_cmp name last.now ≡ Greater

-- the shape is one of strings, which has this one
abbrev pub IsTextOf : Shape → List ℕ → Type 0
IsTextOf text t = ⊤
IsTextOf (named table) t = is_listed table t ≡ true
IsTextOf (open_name table) t = ⊤
IsTextOf digest_text t = is_digest_text t ≡ true
IsTextOf cpu_text t = is_cpu_text t ≡ true
IsTextOf s t = ⊥

-- the number is an integer within the bounds, and was written
abbrev pub WritesWhole : ℤ → ℤ → Num → List Token → List Token → Type 0
WritesWhole low high n old new = (z : ℤ) × (as_integer n ≡ Some z) × (is_in_range low high (Some z) ≡ true) × WritesTree (number (of_integer z)) old new

-- the value is what is written for some set of capabilities
abbrev pub IsNormalSet : Data → Type 0
IsNormalSet d = (bs : List Bool) × (length bs ≡ length capability_table) × (d ≡ array (capability_texts capability_table bs))
