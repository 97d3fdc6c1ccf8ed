-- What a tree means has no `detail` that reads as null.
use Rattle.std.proofs.Common.{ℕ, List, Some, sym, subst}
use Rattle.std.specs.Prelude.{◌≢◌}
use Rattle.serde_json.specs.Data.{Data, null}
use Rattle.serde_json.specs.Find.{get}
use Rattle.serde_json.specs.Read.{read}
use Rattle.oci_model.specs.Plain.{Plain, Slots, no_slots, slot, text_of, list_of, map_of, document_of}
use Rattle.oci_model.specs.Shape.{Presence, required, defaulted, optional, nullable, unless_empty, Shape, text, truth, whole, named, open_name, digest_text, cpu_text, cap_set, list, map, key_set, detail, free_map, rows, Rows, no_rows, row}
use Rattle.oci_model.specs.Fits.{Each, EachEntry}
use Rattle.oci_model.specs.Means.{get_second, Means, MeansRows}
use Rattle.oci_model.specs.Value.{value}
use Rattle.oci_model.specs.WellFormed.{WellFormed, AreWellFormed, MemberIsWellFormed}
use Rattle.oci_json.specs.Details.{EachDetailOf, HasNoNullDetail}
use Rattle.oci_json.proofs.Meanings.{MayBe, may_be, allowed, of_member, any_items, any_members, IsAny, IfDefault, Gives, each_meant, each_entry_meant, either_meant, if_there, got_of, second_of}
use Rattle.oci_json.proofs.ReadsBack.{read_back, never_null}
use Rattle.oci_json.proofs.NotNull.{null_alone}

-- the text does not read as null
abbrev NotNullText : List ℕ → Type 0
NotNullText t = read t ≢ Some null

-- a default is what its own value means
default_has_none : (presence : Presence) (s : Shape) → MemberIsWellFormed presence s (WellFormed s) → Gives IsAny (Means s) (HasNoNullDetail s) → IfDefault (HasNoNullDetail s) presence
default_has_none required s w f = tt
default_has_none (defaulted q) s w f =
    f (value s q) q tt (subst (Means s (value s q)) w.3 (read_back s (allowed s w.0) q w.1 w.2 (never_null s q w.0)))
default_has_none optional s w f = tt
default_has_none nullable s w f = tt
default_has_none unless_empty s w f = tt

-- shape by shape
mutual
  unfolding MayBe

  has_none : (s : Shape) → MayBe s → (d : Data) (p : Plain) → IsAny d → Means s d p → HasNoNullDetail s p
  has_none text may d p r h = tt
  has_none truth may d p r h = tt
  has_none (whole low high) may d p r h = tt
  has_none (named table) may d p r h = tt
  has_none (open_name table) may d p r h = tt
  has_none digest_text may d p r h = tt
  has_none cpu_text may d p r h = tt
  has_none (cap_set table) may d p r h = tt
  has_none (list s) may d p r h =
      subst (λ p. Each (HasNoNullDetail s) (list_of p)) (sym h.3)
      (each_meant IsAny (Means s) (HasNoNullDetail s) (λ d p. has_none s (may_be s (WellFormed s) may) d p) h.0 h.1 (any_items h.0) h.4)
  has_none (map s) may d p r h =
      subst (λ p. EachEntry (HasNoNullDetail s) (map_of p)) (sym h.3)
      (each_entry_meant IsAny (Means s) (HasNoNullDetail s) (λ d p. has_none s (may_be s (WellFormed s) may) d p) h.0 h.1 (any_members h.0) h.4)
  has_none key_set may d p r h = tt
  has_none detail may d p r h = subst (λ p. NotNullText (text_of p)) (sym h.2) (null_alone d h.1 h.0)
  has_none free_map may d p r h = tt
  has_none (rows rs) may d p r h = subst (λ p. EachDetailOf NotNullText rs (document_of p)) (sym h.2) (rows_have_none rs may.1 d h.0 h.3)

  rows_have_none : (rs : Rows) → AreWellFormed rs → (d : Data) (xs : Slots) → MeansRows rs d xs → EachDetailOf NotNullText rs xs
  rows_have_none no_rows w d no_slots h = tt
  rows_have_none no_rows w d (slot x xs) h = absurd h
  rows_have_none (row name second presence s rs) w d no_slots h = absurd h
  rows_have_none (row name second presence s rs) w d (slot x xs) h = (
    let f : Gives IsAny (Means s) (HasNoNullDetail s) = λ d p. has_none s (of_member presence s w.0) d p in
        if_there (HasNoNullDetail s) presence x
        (either_meant IsAny (Means s) (HasNoNullDetail s) f presence (default_has_none presence s w.0 f) (get name d) (get_second second d) x
        (got_of IsAny name d (λ ms e. any_members ms)) (second_of IsAny second d (λ ms e. any_members ms)) h.0),
    rows_have_none rs w.1 d xs h.1,
  )

-- of a well-formed shape
pub meaning_has_no_null : (s : Shape) (d : Data) (p : Plain) → WellFormed s → Means s d p → HasNoNullDetail s p
meaning_has_no_null s d p w h = has_none s (allowed s w) d p tt h
