-- What a tree that was read means is writable.
use Rattle.std.proofs.Common.{◌≡◌, ◌≤◌, ◌-◌, ℕ, List, false, Some, unwrap_or, refl, ◌∙◌, sym, ap, subst, arith}
use Rattle.serde_json.specs.Data.{Data, null, boolean, number, string, array, object, Members, no_members, member}
use Rattle.serde_json.specs.Find.{get}
use Rattle.serde_json.specs.Read.{read, max_depth}
use Rattle.serde_json.specs.Written.{members_have_float}
use Rattle.oci_base.specs.CpuList.{IsCpuList}
use Rattle.oci_model.specs.Plain.{Plain, Slots, no_slots, slot, text_of, list_of, map_of, free_of, document_of}
use Rattle.oci_model.specs.Shape.{Presence, required, defaulted, optional, nullable, unless_empty, Shape, text, truth, whole, named, open_name, digest_text, cpu_text, cap_set, list, map, key_set, detail, free_map, rows, Rows, no_rows, row}
use Rattle.oci_model.specs.Fits.{Each, EachEntry}
use Rattle.oci_model.specs.Means.{unless_null, free_values, get_second, Means, MeansRows}
use Rattle.oci_model.specs.Value.{free_members}
use Rattle.oci_model.specs.Writable.{Writable, AreWritable}
use Rattle.oci_model.specs.WellFormed.{WellFormed, AreWellFormed, MemberIsWellFormed}
use Rattle.oci_json.proofs.Meanings.{MayBe, may_be, allowed, of_member, IfDefault, each_meant, each_entry_meant, either_meant, if_there, got_of, second_of}
use Rattle.oci_json.proofs.Trees.{IsWithin, read_within, array_within, object_within}
use Rattle.oci_json.proofs.ReadAgain.{compact_read}

-- null that is kept as none is null
value_kept : (d : Data) → unwrap_or (unless_null d) null ≡ d
value_kept null = refl
value_kept (boolean b) = refl
value_kept (number n) = refl
value_kept (string s) = refl
value_kept (array ds) = refl
value_kept (object ms) = refl

-- the members of a free map are those that it was read from
pub members_kept : (ms : Members) → free_members (free_values ms) ≡ ms
members_kept no_members = refl
members_kept (member k d ms) = let e = value_kept d in let f = members_kept ms in cc

-- a well-formed default is writable
default_writable : (presence : Presence) (s : Shape) → MemberIsWellFormed presence s (WellFormed s) → IfDefault (Writable s) presence
default_writable required s w = tt
default_writable (defaulted q) s w = w.2
default_writable optional s w = tt
default_writable nullable s w = tt
default_writable unless_empty s w = tt

-- shape by shape, of a tree that nests no deeper than a text may
mutual
  unfolding MayBe

  is_writable : (s : Shape) → MayBe s → (n : ℕ) → n ≤ max_depth → (d : Data) (p : Plain) → IsWithin n d → Means s d p → Writable s p
  is_writable text may n l d p r h = tt
  is_writable truth may n l d p r h = tt
  is_writable (whole low high) may n l d p r h = tt
  is_writable (named table) may n l d p r h = tt
  is_writable (open_name table) may n l d p r h = tt
  is_writable digest_text may n l d p r h = tt
  is_writable cpu_text may n l d p r h = subst (λ p. IsCpuList (text_of p)) (sym h.2) h.3
  is_writable (cap_set table) may n l d p r h = tt
  is_writable (list s) may n l d p r h =
      subst (λ p. Each (Writable s) (list_of p)) (sym h.3)
      (each_meant (IsWithin (n - 1)) (Means s) (Writable s) (λ d p. is_writable s (may_be s (WellFormed s) may) (n - 1) (omega (arith, l)) d p)
      h.0 h.1 (array_within d h.0 n h.2 r) h.4)
  is_writable (map s) may n l d p r h =
      subst (λ p. EachEntry (Writable s) (map_of p)) (sym h.3)
      (each_entry_meant (IsWithin (n - 1)) (Means s) (Writable s) (λ d p. is_writable s (may_be s (WellFormed s) may) (n - 1) (omega (arith, l)) d p)
      h.0 h.1 (object_within d h.0 n h.2 r).0 h.4)
  is_writable key_set may n l d p r h = tt
  is_writable detail may n l d p r h = (d, ap (λ p. read (text_of p)) h.2 ∙ compact_read d r.0 (omega (arith, l, r.1)) h.1, h.1)
  is_writable free_map may n l d p r h =
      subst (λ p. members_have_float (free_members (free_of p)) ≡ false) (sym h.2) (ap members_have_float (members_kept h.0) ∙ h.3)
  is_writable (rows rs) may n l d p r h = subst (λ p. AreWritable rs (document_of p)) (sym h.2) (rows_writable rs may.1 n l d h.0 r h.3)

  rows_writable : (rs : Rows) → AreWellFormed rs → (n : ℕ) → n ≤ max_depth → (d : Data) (xs : Slots) → IsWithin n d → MeansRows rs d xs → AreWritable rs xs
  rows_writable no_rows w n l d no_slots r h = tt
  rows_writable no_rows w n l d (slot x xs) r h = absurd h
  rows_writable (row name second presence s rs) w n l d no_slots r h = absurd h
  rows_writable (row name second presence s rs) w n l d (slot x xs) r h = (
    if_there (Writable s) presence x
        (either_meant (IsWithin (n - 1)) (Means s) (Writable s) (λ d p. is_writable s (of_member presence s w.0) (n - 1) (omega (arith, l)) d p) presence
        (default_writable presence s w.0) (get name d) (get_second second d) x
        (got_of (IsWithin (n - 1)) name d (λ ms e. (object_within d ms n e r).0)) (second_of (IsWithin (n - 1)) second d (λ ms e. (object_within d ms n e r).0)) h.0),
    rows_writable rs w.1 n l d xs r h.1,
  )

-- of what was read
pub read_is_writable : (s : Shape) (t : List ℕ) (v : Data) (p : Plain) → WellFormed s → read t ≡ Some v → Means s v p → Writable s p
read_is_writable s t v p w e h = is_writable s (allowed s w) max_depth (omega arith) v p (read_within t v e) h
