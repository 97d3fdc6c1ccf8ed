-- Which JSON a shape allows, and the plain tree that it then means (image specification, "Extensibility": a member that is not listed is ignored; RFC 8259, section 4).
use Rattle.std.specs.Prelude.{◌≡◌, ◌≢◌, ◌≤ℤ◌, ◌↔◌, ◌⊎◌, ℕ, ℤ, List, [], ◌∷◌, Bool, true, false, if◌then◌else◌, Option, Some, None, option_and_then, is_some, ⊤, IsTrue}
use Rattle.serde_json.specs.Data.{Data, null, Items, no_items, item, Members, no_members, member}
use Rattle.serde_json.specs.Find.{as_bool, as_number, as_integer, as_str, as_array, as_object, get}
use Rattle.serde_json.specs.Written.{has_float, members_have_float, compact_text}
use Rattle.oci_base.specs.Digest.{IsDigestText}
use Rattle.oci_base.specs.Capabilities.{CapText}
use Rattle.oci_base.specs.CpuList.{IsCpuList}
use Rattle.oci_base.specs.Names.{is_listed}
use Rattle.oci_model.specs.Plain as plain
use Rattle.oci_model.specs.Plain.{Plain, Plains, no_plains, Entries, no_entries, entry, Slot, empty, filled, Slots, no_slots, slot}
use Rattle.oci_model.specs.Shape.{Presence, required, defaulted, optional, nullable, unless_empty, Shape, text, truth, whole, named, open_name, digest_text, cpu_text, cap_set, list, map, key_set, detail, free_map, rows, Rows, no_rows, row}

-- a number held as a 64-bit whole one
abbrev pub as_whole : Data → Option ℤ
as_whole d = option_and_then as_integer (as_number d)

abbrev pub is_object : Data → Bool
is_object d = is_some (as_object d)

-- the listed variant, else `Other` of the text
abbrev pub opened : List (List ℕ) → List ℕ → Plain
opened table t = if is_listed table t then plain.variant t else plain.other t

-- ---- sets of capabilities

abbrev pub IsCapability : Data → List ℕ → Type 0
IsCapability d name = (t : List ℕ) × (as_str d ≡ Some t) × CapText t name

-- each item is the text of a listed name
abbrev pub AreCapabilities : List (List ℕ) → Items → Type 0
AreCapabilities table no_items = ⊤
AreCapabilities table (item d ds) = ((name : List ℕ) × IsTrue (is_listed table name) × IsCapability d name) × AreCapabilities table ds

abbrev pub SomeIs : Items → List ℕ → Type 0
SomeIs no_items name = ⊥
SomeIs (item d ds) name = IsCapability d name ⊎ SomeIs ds name

-- a name is in the set exactly if some item is of it
abbrev pub IsSetOf : List (List ℕ) → Items → List Bool → Type 0
IsSetOf [] ds [] = ⊤
IsSetOf [] ds (b ∷ bs) = ⊥
IsSetOf (name ∷ table) ds [] = ⊥
IsSetOf (name ∷ table) ds (b ∷ bs) = (IsTrue b ↔ SomeIs ds name) × IsSetOf table ds bs

-- ---- objects whose members all count

abbrev pub member_names : Members → List (List ℕ)
member_names no_members = []
member_names (member k d ms) = k ∷ member_names ms

-- each value is an object
abbrev pub AreObjects : Members → Type 0
AreObjects no_members = ⊤
AreObjects (member k d ms) = ((inner : Members) × (as_object d ≡ Some inner)) × AreObjects ms

-- null as none
abbrev pub unless_null : Data → Option Data
unless_null null = None
unless_null d = Some d

abbrev pub free_values : Members → List (List ℕ × Option Data)
free_values no_members = []
free_values (member k d ms) = (k, unless_null d) ∷ free_values ms

-- ---- item by item, member by member

abbrev pub EachMeans : (Data → Plain → Type 0) → Items → Plains → Type 0
EachMeans M no_items no_plains = ⊤
EachMeans M no_items (plain.plain p ps) = ⊥
EachMeans M (item d ds) no_plains = ⊥
EachMeans M (item d ds) (plain.plain p ps) = M d p × EachMeans M ds ps

abbrev pub EachEntryMeans : (Data → Plain → Type 0) → Members → Entries → Type 0
EachEntryMeans M no_members no_entries = ⊤
EachEntryMeans M no_members (entry k p es) = ⊥
EachEntryMeans M (member l d ms) no_entries = ⊥
EachEntryMeans M (member l d ms) (entry k p es) = (k ≡ l) × M d p × EachEntryMeans M ms es

-- ---- listed members, each by what stands under its names

-- there, and by its shape
abbrev pub IsThere : (Data → Plain → Type 0) → Option Data → Slot → Type 0
IsThere M None x = ⊥
IsThere M (Some d) empty = ⊥
IsThere M (Some d) (filled p) = M d p

-- there, or this where it is absent
abbrev pub IsThereOr : Slot → (Data → Plain → Type 0) → Option Data → Slot → Type 0
IsThereOr otherwise M None x = x ≡ otherwise
IsThereOr otherwise M (Some d) x = IsThere M (Some d) x

abbrev pub MeansMember : Presence → (Data → Plain → Type 0) → Option Data → Slot → Type 0
MeansMember required M found x = IsThere M found x
MeansMember (defaulted p) M found x = IsThereOr (filled p) M found x
MeansMember optional M found x = IsThereOr empty M (option_and_then unless_null found) x
MeansMember nullable M found x = IsThereOr empty M (option_and_then unless_null found) x
MeansMember unless_empty M found x = IsThereOr empty M (option_and_then unless_null found) x

-- what stands under the second name, where there is one
abbrev pub get_second : Option (List ℕ) → Data → Option Data
get_second None d = None
get_second (Some name) d = get name d

-- A member is judged by what stands under either of its names. Nothing is meant where both stand.
abbrev pub MeansEither : Presence → (Data → Plain → Type 0) → Option Data → Option Data → Slot → Type 0
MeansEither presence M found None x = MeansMember presence M found x
MeansEither presence M None (Some d) x = MeansMember presence M (Some d) x
MeansEither presence M (Some c) (Some d) x = ⊥

abbrev mutual
  pub Means : Shape → Data → Plain → Type 0
  Means text d p = (t : List ℕ) × (as_str d ≡ Some t) × (p ≡ plain.text t)
  Means truth d p = (b : Bool) × (as_bool d ≡ Some b) × (p ≡ plain.truth b)
  Means (whole low high) d p = (z : ℤ) × (as_whole d ≡ Some z) × (p ≡ plain.whole z) × (low ≤ℤ z) × (z ≤ℤ high)
  Means (named table) d p = (t : List ℕ) × (as_str d ≡ Some t) × (p ≡ plain.variant t) × IsTrue (is_listed table t)
  Means (open_name table) d p = (t : List ℕ) × (as_str d ≡ Some t) × (p ≡ opened table t)
  Means digest_text d p = (t : List ℕ) × (as_str d ≡ Some t) × (p ≡ plain.text t) × IsDigestText t
  Means cpu_text d p = (t : List ℕ) × (as_str d ≡ Some t) × (p ≡ plain.text t) × IsCpuList t
  Means (cap_set table) d p = (ds : Items) × (bs : List Bool) × (as_array d ≡ Some ds) × (p ≡ plain.set bs) × AreCapabilities table ds × IsSetOf table ds bs
  Means (list s) d p = (ds : Items) × (ps : Plains) × (as_array d ≡ Some ds) × (p ≡ plain.list ps) × EachMeans (Means s) ds ps
  Means (map s) d p = (ms : Members) × (es : Entries) × (as_object d ≡ Some ms) × (p ≡ plain.map es) × EachEntryMeans (Means s) ms es
  Means key_set d p = (ms : Members) × (as_object d ≡ Some ms) × (p ≡ plain.keys (member_names ms)) × AreObjects ms
  Means detail d p = (d ≢ null) × (has_float d ≡ false) × (p ≡ plain.text (compact_text d))
  Means free_map d p = (ms : Members) × (as_object d ≡ Some ms) × (p ≡ plain.free (free_values ms)) × (members_have_float ms ≡ false)
  Means (rows rs) d p = (xs : Slots) × (is_object d ≡ true) × (p ≡ plain.document xs) × MeansRows rs d xs

  -- each listed member is judged alone, by what stands under its names; other members are not looked at
  pub MeansRows : Rows → Data → Slots → Type 0
  MeansRows no_rows d no_slots = ⊤
  MeansRows no_rows d (slot x xs) = ⊥
  MeansRows (row name second presence s rs) d no_slots = ⊥
  MeansRows (row name second presence s rs) d (slot x xs) = MeansEither presence (Means s) (get name d) (get_second second d) x × MeansRows rs d xs
