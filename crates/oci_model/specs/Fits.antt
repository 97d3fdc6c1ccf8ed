-- Which plain trees are of a shape.
use Rattle.std.specs.Prelude.{◌≡◌, ◌≤ℤ◌, ℕ, ℤ, List, Bool, Option, length, ⊤, IsTrue}
use Rattle.serde_json.specs.Data.{Data}
use Rattle.oci_base.specs.Digest.{IsDigestText}
use Rattle.oci_model.specs.Erased.{erased_values}
use Rattle.oci_base.specs.Names.{is_listed}
use Rattle.oci_model.specs.Plain as plain
use Rattle.oci_model.specs.Plain.{Plain, Plains, no_plains, Entries, no_entries, entry, Slot, empty, filled, Slots, no_slots, slot}
use Rattle.oci_model.specs.Shape.{Presence, required, defaulted, optional, nullable, unless_empty, Shape, text, truth, whole, named, open_name, digest_text, cpu_text, cap_set, list, map, key_set, detail, free_map, rows, Rows, no_rows, row}

-- ---- of each part

abbrev pub Each : (Plain → Type 0) → Plains → Type 0
Each P no_plains = ⊤
Each P (plain.plain p ps) = P p × Each P ps

abbrev pub EachEntry : (Plain → Type 0) → Entries → Type 0
EachEntry P no_entries = ⊤
EachEntry P (entry k p es) = P p × EachEntry P es

abbrev pub IfFilled : (Plain → Type 0) → Slot → Type 0
IfFilled P empty = ⊤
IfFilled P (filled p) = P p

abbrev pub IsFilled : (Plain → Type 0) → Slot → Type 0
IsFilled P empty = ⊥
IsFilled P (filled p) = P p

-- a required or defaulted member is always there
abbrev pub FitsMember : Presence → (Plain → Type 0) → Slot → Type 0
FitsMember required P x = IsFilled P x
FitsMember (defaulted d) P x = IsFilled P x
FitsMember optional P x = IfFilled P x
FitsMember nullable P x = IfFilled P x
FitsMember unless_empty P x = IfFilled P x

-- a variant of the table, or any `Other` text
abbrev pub FitsOpen : List (List ℕ) → Plain → Type 0
FitsOpen table (plain.variant t) = IsTrue (is_listed table t)
FitsOpen table (plain.other t) = ⊤
FitsOpen table _ = ⊥

abbrev mutual
  pub Fits : Shape → Plain → Type 0
  Fits text p = (t : List ℕ) × (p ≡ plain.text t)
  Fits truth p = (b : Bool) × (p ≡ plain.truth b)
  Fits (whole low high) p = (z : ℤ) × (p ≡ plain.whole z) × (low ≤ℤ z) × (z ≤ℤ high)
  Fits (named table) p = (t : List ℕ) × (p ≡ plain.variant t) × IsTrue (is_listed table t)
  Fits (open_name table) p = FitsOpen table p
  Fits digest_text p = (t : List ℕ) × (p ≡ plain.text t) × IsDigestText t
  Fits cpu_text p = (t : List ℕ) × (p ≡ plain.text t)
  Fits (cap_set table) p = (bs : List Bool) × (p ≡ plain.set bs) × (length bs ≡ length table)
  Fits (list s) p = (ps : Plains) × (p ≡ plain.list ps) × Each (Fits s) ps
  Fits (map s) p = (es : Entries) × (p ≡ plain.map es) × EachEntry (Fits s) es
  Fits key_set p = (ks : List (List ℕ)) × (p ≡ plain.keys ks)
  Fits detail p = (t : List ℕ) × (p ≡ plain.text t)
  Fits free_map p = (es : List (List ℕ × Option Data)) × (p ≡ plain.free es) × (erased_values es ≡ es)
  Fits (rows rs) p = (xs : Slots) × (p ≡ plain.document xs) × FitsRows rs xs

  pub FitsRows : Rows → Slots → Type 0
  FitsRows no_rows no_slots = ⊤
  FitsRows no_rows (slot x xs) = ⊥
  FitsRows (row name second presence s rs) no_slots = ⊥
  FitsRows (row name second presence s rs) (slot x xs) = FitsMember presence (Fits s) x × FitsRows rs xs
