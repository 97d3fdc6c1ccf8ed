-- Members that no schema lists (image specification, "Extensibility"; runtime specification, "Extensibility": they are ignored).
use Rattle.std.specs.Prelude.{ℕ, ◌+◌, ◌≡◌, ◌⊎◌, List, [], ◌∷◌, ◌++◌, false, if◌then◌else◌, Option, Some, None}
use Rattle.serde_json.specs.Data.{Data, Members, no_members, member}
use Rattle.serde_json.specs.Find.{as_array, as_object, get}
use Rattle.oci_base.specs.Names.{is_listed}
use Rattle.oci_model.specs.Shape as shape
use Rattle.oci_model.specs.Shape.{Shape, text, truth, whole, named, open_name, digest_text, cpu_text, cap_set, list, key_set, detail, free_map, rows, Rows, no_rows, row, names}
use Rattle.oci_schema.specs.EachPart.{of_items, of_members, of_part}
use Rattle.oci_schema.specs.Leads.{HasMember, HasItem}
use Rattle.oci_schema.specs.Places.{under_name, under_index}

-- the pointer of a member, its name, and the names that the record lists there
abbrev pub Report : Type 0
Report = List ℕ × List ℕ × List (List ℕ)

-- ---- where records are

-- so of what is under the name, if there is a name
abbrev pub IsUnder : (List ℕ → Data → Rows → List ℕ → Data → Type 0) → Option (List ℕ) → List ℕ → Data → Rows → List ℕ → Data → Type 0
IsUnder R None at d qs shown part = ⊥
IsUnder R (Some name) at d qs shown part = (c : Data) × (get name d ≡ Some c) × R (under_name at name) c qs shown part

abbrev mutual
  -- the object that is the part at the pointer `shown` is read as the record of these rows
  pub IsRecord : Shape → List ℕ → Data → Rows → List ℕ → Data → Type 0
  IsRecord text at d qs shown part = ⊥
  IsRecord truth at d qs shown part = ⊥
  IsRecord (whole low high) at d qs shown part = ⊥
  IsRecord (named table) at d qs shown part = ⊥
  IsRecord (open_name table) at d qs shown part = ⊥
  IsRecord digest_text at d qs shown part = ⊥
  IsRecord cpu_text at d qs shown part = ⊥
  IsRecord (cap_set table) at d qs shown part = ⊥
  IsRecord (list s) at d qs shown part = (i : ℕ) × (c : Data) × HasItem d i c × IsRecord s (under_index at i) c qs shown part
  IsRecord (shape.map s) at d qs shown part = (name : List ℕ) × (c : Data) × HasMember d name c × IsRecord s (under_name at name) c qs shown part
  IsRecord key_set at d qs shown part = ⊥
  IsRecord detail at d qs shown part = ⊥
  IsRecord free_map at d qs shown part = ⊥
  IsRecord (rows rs) at d qs shown part = ((qs ≡ rs) × (shown ≡ at) × (part ≡ d)) ⊎ IsRecordIn rs at d qs shown part

  -- it is what a listed member is read as, or in it
  pub IsRecordIn : Rows → List ℕ → Data → Rows → List ℕ → Data → Type 0
  IsRecordIn no_rows at d qs shown part = ⊥
  IsRecordIn (row name alias presence s rs) at d qs shown part = IsUnder (IsRecord s) (Some name) at d qs shown part ⊎ (IsUnder (IsRecord s) alias at d qs shown part ⊎ IsRecordIn rs at d qs shown part)

-- a member of a record's object that the record does not list
abbrev pub IsUnknown : Shape → Data → Report → Type 0
IsUnknown s d x =
    (rs : Rows) × (shown : List ℕ) × (part c : Data)
    × IsRecord s [] d rs shown part × HasMember part x.1 c × (is_listed (names rs) x.1 ≡ false) × (x.0 ≡ under_name shown x.1) × (x.2 ≡ names rs)

-- ---- the list of them

abbrev pub unless_listed : List (List ℕ) → List ℕ → List ℕ → List Report
unless_listed ns at k = if is_listed ns k then [] else (under_name at k, k, ns) ∷ []

-- among the members of an object that is read as a record with these names
abbrev pub unlisted : List (List ℕ) → List ℕ → Members → List Report
unlisted ns at no_members = []
unlisted ns at (member k d ms) = unless_listed ns at k ++ unlisted ns at ms

abbrev pub unlisted_in : List (List ℕ) → List ℕ → Option Members → List Report
unlisted_in ns at None = []
unlisted_in ns at (Some ms) = unlisted ns at ms

-- of what is under the name, if there is a name
abbrev pub of_named : (List ℕ → Data → List Report) → Option (List ℕ) → List ℕ → Data → List Report
of_named f None at d = []
of_named f (Some name) at d = of_part f (under_name at name) (get name d)

abbrev mutual
  pub unknown : Shape → List ℕ → Data → List Report
  unknown text at d = []
  unknown truth at d = []
  unknown (whole low high) at d = []
  unknown (named table) at d = []
  unknown (open_name table) at d = []
  unknown digest_text at d = []
  unknown cpu_text at d = []
  unknown (cap_set table) at d = []
  unknown (list s) at d = of_items (unknown s) at (as_array d)
  unknown (shape.map s) at d = of_members (unknown s) at (as_object d)
  unknown key_set at d = []
  unknown detail at d = []
  unknown free_map at d = []
  unknown (rows rs) at d = unlisted_in (names rs) at (as_object d) ++ unknown_in rs at d

  pub unknown_in : Rows → List ℕ → Data → List Report
  unknown_in no_rows at d = []
  unknown_in (row name alias presence s rs) at d = of_named (unknown s) (Some name) at d ++ (of_named (unknown s) alias at d ++ unknown_in rs at d)
