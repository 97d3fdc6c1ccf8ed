-- What a tree means fits the shape.
use Rattle.std.proofs.Common.{◌≡◌, ℕ, List, [], ◌∷◌, Bool, true, false, cond, length, refl, sym, subst}
use Rattle.serde_json.specs.Data.{Data, Items}
use Rattle.serde_json.specs.Find.{get}
use Rattle.serde_json.specs.Written.{compact_text}
use Rattle.oci_base.specs.Names.{is_listed}
use Rattle.oci_model.specs.Plain as plain
use Rattle.oci_model.specs.Plain.{Plain, Slots, no_slots, slot}
use Rattle.oci_model.specs.Shape.{Presence, required, defaulted, optional, nullable, unless_empty, Shape, text, truth, whole, named, open_name, digest_text, cpu_text, cap_set, list, map, key_set, detail, free_map, rows, Rows, no_rows, row}
use Rattle.oci_model.specs.Fits.{FitsOpen, Fits, FitsRows}
use Rattle.oci_model.specs.Means.{opened, IsSetOf, member_names, free_values, get_second, Means, MeansRows}
use Rattle.oci_model.specs.WellFormed.{WellFormed, AreWellFormed, MemberIsWellFormed}
use Rattle.oci_model.proofs.Erasing.{erased_free_values}
use Rattle.oci_json.proofs.Meanings.{MayBe, may_be, allowed, of_member, any_items, any_members, IsAny, IfDefault, each_meant, each_entry_meant, either_meant, got_of, second_of}

-- by whether the text is listed
open_fits_by : (table : List (List ℕ)) (t : List ℕ) (b : Bool) → is_listed table t ≡ b → FitsOpen table (cond b (plain.variant t) (plain.other t))
open_fits_by table t true e = e
open_fits_by table t false e = tt

-- an open name is a variant of its table, or another text
pub open_fits : (table : List (List ℕ)) (t : List ℕ) → FitsOpen table (opened table t)
open_fits table t = open_fits_by table t (is_listed table t) refl

-- a set has one entry for each name of the table
set_fits : (table : List (List ℕ)) (ds : Items) (bs : List Bool) → IsSetOf table ds bs → length bs ≡ length table
set_fits [] ds [] h = refl
set_fits [] ds (b ∷ bs) h = absurd h
set_fits (name ∷ table) ds [] h = absurd h
set_fits (name ∷ table) ds (b ∷ bs) h = let e = set_fits table ds bs h.1 in cc

-- a well-formed default fits
default_fits : (presence : Presence) (s : Shape) → MemberIsWellFormed presence s (WellFormed s) → IfDefault (Fits s) presence
default_fits required s w = tt
default_fits (defaulted q) s w = w.1
default_fits optional s w = tt
default_fits nullable s w = tt
default_fits unless_empty s w = tt

-- shape by shape
mutual
  unfolding MayBe

  meaning_fits : (s : Shape) → MayBe s → (d : Data) (p : Plain) → IsAny d → Means s d p → Fits s p
  meaning_fits text w d p r h = (h.0, h.2)
  meaning_fits truth w d p r h = (h.0, h.2)
  meaning_fits (whole low high) w d p r h = (h.0, h.2, h.3, h.4)
  meaning_fits (named table) w d p r h = (h.0, h.2, h.3)
  meaning_fits (open_name table) w d p r h = subst (FitsOpen table) (sym h.2) (open_fits table h.0)
  meaning_fits digest_text w d p r h = (h.0, h.2, h.3)
  meaning_fits cpu_text w d p r h = (h.0, h.2)
  meaning_fits (cap_set table) w d p r h = (h.1, h.3, set_fits table h.0 h.1 h.5)
  meaning_fits (list s) w d p r h =
      (h.1, h.3, each_meant IsAny (Means s) (Fits s) (λ d p. meaning_fits s (may_be s (WellFormed s) w) d p) h.0 h.1 (any_items h.0) h.4)
  meaning_fits (map s) w d p r h =
      (h.1, h.3, each_entry_meant IsAny (Means s) (Fits s) (λ d p. meaning_fits s (may_be s (WellFormed s) w) d p) h.0 h.1 (any_members h.0) h.4)
  meaning_fits key_set w d p r h = (member_names h.0, h.2)
  meaning_fits detail w d p r h = (compact_text d, h.2)
  meaning_fits free_map w d p r h = (free_values h.0, h.2, erased_free_values h.0 h.3)
  meaning_fits (rows rs) w d p r h = (h.0, h.2, rows_fit rs w.1 d h.0 h.3)

  rows_fit : (rs : Rows) → AreWellFormed rs → (d : Data) (xs : Slots) → MeansRows rs d xs → FitsRows rs xs
  rows_fit no_rows w d no_slots h = tt
  rows_fit no_rows w d (slot x xs) h = absurd h
  rows_fit (row name second presence s rs) w d no_slots h = absurd h
  rows_fit (row name second presence s rs) w d (slot x xs) h = (
    either_meant IsAny (Means s) (Fits s) (λ d p. meaning_fits s (of_member presence s w.0) d p) presence (default_fits presence s w.0) (get name d) (get_second second d) x
        (got_of IsAny name d (λ ms e. any_members ms)) (second_of IsAny second d (λ ms e. any_members ms)) h.0,
    rows_fit rs w.1 d xs h.1,
  )

-- of a well-formed shape
pub fits : (s : Shape) (d : Data) (p : Plain) → WellFormed s → Means s d p → Fits s p
fits s d p w h = meaning_fits s (allowed s w) d p tt h
