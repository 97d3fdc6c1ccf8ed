-- Values that are their own normal form.
use Rattle.std.specs.Prelude.{◌≡◌, ◌⊎◌, ⊤, ℕ, List, Bool, true, false, Some, is_some}
use Rattle.serde_json.specs.Data.{Data, object, Items, Members, no_members, member}
use Rattle.serde_json.specs.Find.{get_member}
use Rattle.oci_model.specs.Shape.{Presence, required, defaulted, optional, nullable, unless_empty, Shape, Rows, no_rows, row}
use Rattle.oci_model.specs.Value.{value}
use Rattle.oci_schema.specs.Allows.{each_allowed, each_member_allowed, member_allowed}
use Rattle.oci_schema.specs.Normalized.{accepts, rows_accept, normalized, each_normalized, each_member_normalized, normalized_member, normalized_rows}

abbrev pub IsNormal : Shape → Data → Type 0
IsNormal s d = (accepts s d ≡ true) × (normalized s d ≡ d)

-- so is each item
abbrev pub AreNormal : Shape → Items → Type 0
AreNormal s ds = (each_allowed (accepts s) ds ≡ true) × (each_normalized (normalized s) ds ≡ ds)

-- so is the value of each member
abbrev pub HoldNormal : Shape → Members → Type 0
HoldNormal s ms = (each_member_allowed (accepts s) ms ≡ true) × (each_member_normalized (normalized s) ms ≡ ms)

-- ---- objects of records

-- the members are those of the normal form
abbrev pub AreNormalMembers : Rows → Members → Type 0
AreNormalMembers rs ms = (rows_accept rs (object ms) ≡ true) × (normalized_rows rs (object ms) no_members ≡ ms)

-- a member that is always written
abbrev pub is_always_written : Presence → Bool
is_always_written required = true
is_always_written (defaulted p) = true
is_always_written optional = false
is_always_written nullable = true
is_always_written unless_empty = false

-- a member's value that is its own normal form
abbrev pub IsNormalMember : Presence → Shape → Data → Type 0
IsNormalMember presence s d = (member_allowed presence (accepts s) (Some d) ≡ true) × (normalized_member presence (value s) (normalized s) (Some d) ≡ Some d)

-- the schema has a member of this name, and the value is its own normal form there
abbrev pub IsNormalEntry : Rows → List ℕ → Data → Type 0
IsNormalEntry no_rows q d = ⊥
IsNormalEntry (row name alias presence s rs) q d = ((q ≡ name) × IsNormalMember presence s d) ⊎ IsNormalEntry rs q d

-- so is each entry of the object
abbrev pub AreNormalEntries : Rows → Members → Type 0
AreNormalEntries rs no_members = ⊤
AreNormalEntries rs (member k d ms) = IsNormalEntry rs k d × AreNormalEntries rs ms

-- each member that is always written is there
abbrev pub HasAll : Rows → Members → Type 0
HasAll no_rows ms = ⊤
HasAll (row name alias presence s rs) ms = (is_always_written presence ≡ true → is_some (get_member name ms) ≡ true) × HasAll rs ms

-- each value is an object with no members
abbrev pub AreEmptyObjects : Members → Type 0
AreEmptyObjects no_members = ⊤
AreEmptyObjects (member k d ms) = (d ≡ object no_members) × AreEmptyObjects ms
