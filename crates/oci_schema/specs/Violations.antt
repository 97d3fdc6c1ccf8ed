-- The violations of a shape by a value: each place, and what is expected there, in the order of the members.
use Rattle.std.specs.Prelude.{ℕ, ◌+◌, List, [], ◌∷◌, ◌++◌, Bool, if◌then◌else◌, Option, Some, None, is_some, string_bytes}
use Rattle.serde_json.specs.Data.{Data, Items, Members}
use Rattle.serde_json.specs.Find.{as_array, as_object, as_null, get}
use Rattle.oci_model.specs.Means.{is_object}
use Rattle.oci_model.specs.Shape.{Presence, required, defaulted, optional, nullable, unless_empty, Shape, text, truth, whole, named, open_name, digest_text, cpu_text, cap_set, list, key_set, detail, free_map, rows, Rows, no_rows, row}
use Rattle.oci_model.specs.Shape as shape
use Rattle.oci_schema.specs.Allows.{allows}
use Rattle.oci_schema.specs.EachPart.{of_each, of_each_member}
use Rattle.oci_schema.specs.Places.{under_name}
use Rattle.oci_schema.specs.Shapes.{scalar_shape, schema_shape, presence_of, alias_of}
use Rattle.oci_schema.specs.declared.record.Member.{Member}
use Rattle.oci_schema.specs.declared.violation.ExpectedKind.{ExpectedKind}
use Rattle.oci_schema.specs.declared.violation.ExpectedKind.TheVariants as kind
use Rattle.oci_schema.specs.declared.violation.Violation.{Violation}
use Rattle.oci_schema.specs.declared.violation.Expected.{Expected}
use Rattle.oci_schema.specs.declared.violation.Expected.TheVariants as expected

-- a kind of values; the items and members of a value have violations of their own
pub data ValueKind : Type 0 where
  -- a scalar of this shape
  a_scalar : Shape → ValueKind
  an_array : ValueKind
  an_object : ValueKind

abbrev pub kind_of : Shape → ValueKind
kind_of text = a_scalar text
kind_of truth = a_scalar truth
kind_of (whole low high) = a_scalar (whole low high)
kind_of (named table) = a_scalar (named table)
kind_of (open_name table) = a_scalar (open_name table)
kind_of digest_text = a_scalar digest_text
kind_of cpu_text = a_scalar cpu_text
kind_of (cap_set table) = a_scalar (cap_set table)
kind_of (list s) = an_array
kind_of (shape.map s) = an_object
kind_of key_set = a_scalar key_set
kind_of detail = a_scalar detail
kind_of free_map = a_scalar free_map
kind_of (rows rs) = an_object

abbrev pub is_of_kind : ValueKind → Data → Bool
is_of_kind (a_scalar s) d = allows s d
is_of_kind an_array d = is_some (as_array d)
is_of_kind an_object d = is_some (as_object d)

abbrev pub value_kind : ExpectedKind → ValueKind
value_kind (kind.Scalar s) = a_scalar (scalar_shape s)
value_kind kind.Array = an_array
value_kind kind.Object = an_object

-- what is expected at a place
pub data Expectation : Type 0 where
  -- a value of this kind, which the value there is not
  a_value : ValueKind → Expectation
  -- a member of this kind, which is missing
  a_member : ValueKind → Expectation
  -- no member of this alias, since one of its own name is there
  no_alias : List ℕ → Expectation

-- a place, as a JSON pointer, and what is expected there
abbrev pub Report : Type 0
Report = List ℕ × Expectation

abbrev pub expectation_of : Expected → Expectation
expectation_of (expected.Value x) = a_value (value_kind x)
expectation_of (expected.Member x) = a_member (value_kind x)
expectation_of (expected.NoAlias name) = no_alias name.now

abbrev pub reported : Violation → Report
reported x = (string_bytes x.pointer, expectation_of x.expected)

abbrev pub unless : Bool → List ℕ → Shape → List Report
unless allowed at s = if allowed then [] else (at, a_value (kind_of s)) ∷ []

-- ---- each part at its place

abbrev pub items_violations : Shape → (List ℕ → Data → List Report) → List ℕ → Option Items → List Report
items_violations s f at None = (at, a_value (kind_of s)) ∷ []
items_violations s f at (Some ds) = of_each f at 0 ds

abbrev pub members_violations : Shape → (List ℕ → Data → List Report) → List ℕ → Option Members → List Report
members_violations s f at None = (at, a_value (kind_of s)) ∷ []
members_violations s f at (Some ms) = of_each_member f at ms

-- ---- members of records

abbrev pub unless_null : (List ℕ → Data → List Report) → List ℕ → Data → List Report
unless_null f at d = if is_some (as_null d) then [] else f at d

-- at the member's place
abbrev pub member_violations : Presence → Shape → (List ℕ → Data → List Report) → List ℕ → Option Data → List Report
member_violations required s f at None = (at, a_member (kind_of s)) ∷ []
member_violations required s f at (Some d) = f at d
member_violations (defaulted p) s f at None = []
member_violations (defaulted p) s f at (Some d) = f at d
member_violations optional s f at None = []
member_violations optional s f at (Some d) = unless_null f at d
member_violations nullable s f at None = []
member_violations nullable s f at (Some d) = unless_null f at d
member_violations unless_empty s f at None = []
member_violations unless_empty s f at (Some d) = unless_null f at d

-- at the name under which it is found, or at its own name where it is missing
abbrev pub either_violations : Presence → Shape → (List ℕ → Data → List Report) → List ℕ → List ℕ → List ℕ → Option Data → Option Data → List Report
either_violations presence s f at name alias found None = member_violations presence s f (under_name at name) found
either_violations presence s f at name alias None (Some d) = member_violations presence s f (under_name at alias) (Some d)
either_violations presence s f at name alias (Some c) (Some d) = (under_name at name, no_alias alias) ∷ []

abbrev pub row_violations : Presence → Shape → (List ℕ → Data → List Report) → List ℕ → List ℕ → Option (List ℕ) → Data → List Report
row_violations presence s f at name None d = member_violations presence s f (under_name at name) (get name d)
row_violations presence s f at name (Some alias) d = either_violations presence s f at name alias (get name d) (get alias d)

abbrev mutual
  pub violations : Shape → List ℕ → Data → List Report
  violations text at d = unless (allows text d) at text
  violations truth at d = unless (allows truth d) at truth
  violations (whole low high) at d = unless (allows (whole low high) d) at (whole low high)
  violations (named table) at d = unless (allows (named table) d) at (named table)
  violations (open_name table) at d = unless (allows (open_name table) d) at (open_name table)
  violations digest_text at d = unless (allows digest_text d) at digest_text
  violations cpu_text at d = unless (allows cpu_text d) at cpu_text
  violations (cap_set table) at d = unless (allows (cap_set table) d) at (cap_set table)
  violations (list s) at d = items_violations (list s) (violations s) at (as_array d)
  violations (shape.map s) at d = members_violations (shape.map s) (violations s) at (as_object d)
  violations key_set at d = unless (allows key_set d) at key_set
  violations detail at d = unless (allows detail d) at detail
  violations free_map at d = unless (allows free_map d) at free_map
  violations (rows rs) at d = if is_object d then rows_violations rs at d else (at, a_value an_object) ∷ []

  pub rows_violations : Rows → List ℕ → Data → List Report
  rows_violations no_rows at d = []
  rows_violations (row name alias presence s rs) at d = row_violations presence s (violations s) at name alias d ++ rows_violations rs at d

-- a member of a record, over a table with these shapes
abbrev pub known_violations : (ℕ → Shape) → Member → List ℕ → Data → List Report
known_violations f m at d = row_violations (presence_of m.presence) (schema_shape f m.schema) (violations (schema_shape f m.schema)) at m.name.now (alias_of m.alias) d
