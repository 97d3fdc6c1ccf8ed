-- Which shape is wanted of which part of a value, and what is wrong with a part.
use Rattle.std.specs.Prelude.{◌≡◌, ◌⊎◌, ℕ, List, [], ◌∷◌, Bool, true, false, ◌&&◌, Option, Some, None, is_some}
use Rattle.serde_json.specs.Data.{Data}
use Rattle.serde_json.specs.Find.{as_null, get, pointer}
use Rattle.oci_model.specs.Means.{is_object, get_second}
use Rattle.oci_model.specs.Shape as shape
use Rattle.oci_model.specs.Shape.{Presence, required, Shape, list, rows, Rows, no_rows, row}
use Rattle.oci_schema.specs.Given.{may_be_null}
use Rattle.oci_schema.specs.Leads.{Step, to_member, to_item, spelled, HasMember, HasItem}
use Rattle.oci_schema.specs.Places.{under_name}
use Rattle.oci_schema.specs.Violations.{Expectation, kind_of, is_of_kind, a_value, a_member, no_alias, Report}

-- ---- the members that a record lists

abbrev pub HasRow : Rows → List ℕ → Option (List ℕ) → Presence → Shape → Type 0
HasRow no_rows name alias presence s = ⊥
HasRow (row n a p t rs) name alias presence s = ((name ≡ n) × (alias ≡ a) × (presence ≡ p) × (s ≡ t)) ⊎ HasRow rs name alias presence s

-- it is the shape of a record that lists this member: its name, its alias, its presence and its shape
abbrev pub Lists : Shape → List ℕ → Option (List ℕ) → Presence → Shape → Type 0
Lists s name alias presence t = (rs : Rows) × (s ≡ rows rs) × HasRow rs name alias presence t

-- it stands under the name and nothing under the alias, or the other way round
abbrev pub StandsUnder : List ℕ → Option (List ℕ) → Data → List ℕ → Data → Type 0
StandsUnder name alias d key c = (get key d ≡ Some c) × (((key ≡ name) × (get_second alias d ≡ None)) ⊎ ((alias ≡ Some key) × (get name d ≡ None)))

-- it is null and counts as absent
abbrev pub is_as_absent : Presence → Data → Bool
is_as_absent presence c = may_be_null presence && is_some (as_null c)

-- ---- ways

-- one step from a value into a part: where the one shape is wanted of the value, the other is wanted of the part
abbrev pub StepsTo : Shape → Data → Step → Shape → Data → Type 0
-- of each item of a list
StepsTo s d (to_item i) t c = (s ≡ list t) × HasItem d i c
-- of each member of a map, and of the members that a record lists
StepsTo s d (to_member key) t c =
    ((s ≡ shape.map t) × HasMember d key c)
    ⊎ ((name : List ℕ) × (alias : Option (List ℕ)) × (presence : Presence)
    × Lists s name alias presence t × StandsUnder name alias d key c × (is_as_absent presence c ≡ false))

-- the way leads from a value to a part: where the one shape is wanted of the value, the other is wanted of the part
abbrev pub Wants : Shape → Data → List Step → Shape → Data → Type 0
Wants s d [] t part = (t ≡ s) × (part ≡ d)
Wants s d (step ∷ way) t part = (u : Shape) × (c : Data) × StepsTo s d step u c × Wants u c way t part

-- ---- violations

-- what is wrong with a part at a place, of which this shape is wanted: where that is said, and what is expected there
abbrev pub IsWrong : Shape → Data → List ℕ → List ℕ → Expectation → Type 0
-- it is not of the kind of that shape
IsWrong t part place at (a_value k) = (at ≡ place) × (k ≡ kind_of t) × (is_of_kind k part ≡ false)
-- it is an object without a required member
IsWrong t part place at (a_member k) =
    (name : List ℕ) × (alias : Option (List ℕ)) × (s : Shape) × Lists t name alias required s × (at ≡ under_name place name) × (k ≡ kind_of s)
    × (is_object part ≡ true) × (get name part ≡ None) × (get_second alias part ≡ None)
-- it is an object with a member under its name and under its alias
IsWrong t part place at (no_alias alias) =
    (name : List ℕ) × (presence : Presence) × (s : Shape) × Lists t name (Some alias) presence s × (at ≡ under_name place name)
    × (is_some (get name part) ≡ true) × (is_some (get alias part) ≡ true)

-- a way leads to a part with which this is wrong, from a value at a place of which the shape is wanted
abbrev pub IsViolationAt : List ℕ → Shape → Data → Report → Type 0
IsViolationAt at s d x = (way : List Step) × (t : Shape) × (part : Data) × Wants s d way t part × IsWrong t part (spelled at way) x.0 x.1

-- a violation of the shape by the value
abbrev pub IsViolation : Shape → Data → Report → Type 0
IsViolation = IsViolationAt []

-- ---- what the pointer of a violation finds (RFC 6901)

abbrev pub Finds : Data → List ℕ → Expectation → Type 0
-- a part that is not of the expected kind
Finds d at (a_value k) = (part : Data) × (pointer at d ≡ Some part) × (is_of_kind k part ≡ false)
-- nothing, in an object
Finds d at (a_member k) =
    (holder : List ℕ) × (name : List ℕ) × (outer : Data) × (at ≡ under_name holder name) × (pointer holder d ≡ Some outer) × (is_object outer ≡ true) × (pointer at d ≡ None)
-- a member, and one under the alias beside it
Finds d at (no_alias alias) =
    (holder : List ℕ) × (name : List ℕ) × (at ≡ under_name holder name) × (is_some (pointer at d) ≡ true) × (is_some (pointer (under_name holder alias) d) ≡ true)
