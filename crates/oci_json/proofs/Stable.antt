-- A normal form fits, is writable, is its own normal form, and has the value of what it was made from.
use Rattle.std.proofs.Common.{◌≡◌, ℕ, List, [], ◌∷◌, Bool, true, false, cond, Option, Some, None, option_map, unwrap_or, refl, ◌∙◌, sym, ap, subst, true≢false}
use Rattle.std.specs.Prelude.{◌≢◌, option_and_then}
use Rattle.serde_json.specs.Data.{Data, null, boolean, number, string, array, object, Members, no_members}
use Rattle.serde_json.specs.Read.{read}
use Rattle.serde_json.specs.Written.{has_float, members_have_float, compact_text}
use Rattle.oci_base.specs.Names.{is_listed}
use Rattle.oci_model.specs.Erased.{erased, erased_values}
use Rattle.oci_model.specs.Plain as plain
use Rattle.oci_model.specs.Plain.{Plain, Plains, no_plains, Entries, no_entries, entry, Slot, empty, filled, Slots, no_slots, slot, text_of, list_of, map_of, keys_of, free_of, document_of}
use Rattle.oci_model.specs.Shape.{Presence, required, defaulted, optional, nullable, unless_empty, Shape, text, truth, whole, named, open_name, digest_text, cpu_text, cap_set, list, map, key_set, detail, free_map, rows, Rows, no_rows, row}
use Rattle.oci_model.specs.Fits.{Fits, FitsRows, FitsMember, Each, EachEntry, IfFilled}
use Rattle.oci_model.specs.Means.{opened, unless_null}
use Rattle.oci_model.specs.Value.{value, empty_objects, free_members, each_value, each_entry_value, is_null, is_empty_array, member_value, with_member, with_rows}
use Rattle.oci_model.specs.Norm.{norm, norm_open, norm_free, each_plain, each_entry, norm_member, norm_rows}
use Rattle.oci_model.specs.Writable.{Writable, AreWritable}
use Rattle.oci_model.specs.WellFormed.{WellFormed, AreWellFormed, MemberIsWellFormed}
use Rattle.oci_json.specs.Details.{EachDetailOf, HasNoNullDetail}
use Rattle.oci_model.proofs.Erasing.{unless_null_as_it_was}
use Rattle.oci_json.proofs.Meanings.{MayBe, may_be}
use Rattle.oci_json.proofs.MeaningFits.{open_fits}
use Rattle.oci_json.proofs.ReadsBack.{never_null}
use Rattle.oci_json.proofs.ReadAgain.{read_again}
use Rattle.oci_json.proofs.Sorting.{sorted_again}

-- ---- leaves

-- by whether the text is listed
open_again_by : (table : List (List ℕ)) (t : List ℕ) (b : Bool) → is_listed table t ≡ b
    → norm_open table (cond b (plain.variant t) (plain.other t)) ≡ cond b (plain.variant t) (plain.other t)
open_again_by table t true e = refl
open_again_by table t false e = rw e refl

-- an open name that was opened stays
open_again : (table : List (List ℕ)) (t : List ℕ) → norm_open table (opened table t) ≡ opened table t
open_again table t = open_again_by table t (is_listed table t) refl

-- its text is the same either way
open_text_by : (b : Bool) (t : List ℕ) → text_of (cond b (plain.variant t) (plain.other t)) ≡ t
open_text_by true t = refl
open_text_by false t = refl

-- none stays none
value_again : (o : Option Data) → option_and_then unless_null (option_and_then unless_null o) ≡ option_and_then unless_null o
value_again None = refl
value_again (Some null) = refl
value_again (Some (boolean b)) = refl
value_again (Some (number n)) = refl
value_again (Some (string t)) = refl
value_again (Some (array ds)) = refl
value_again (Some (object ms)) = refl

-- none is written as null was
value_there : (o : Option Data) → unwrap_or (option_and_then unless_null o) null ≡ unwrap_or o null
value_there None = refl
value_there (Some null) = refl
value_there (Some (boolean b)) = refl
value_there (Some (number n)) = refl
value_there (Some (string t)) = refl
value_there (Some (array ds)) = refl
value_there (Some (object ms)) = refl

-- an erased value stays erased
value_erased : (o : Option Data) → option_map erased o ≡ o → option_map erased (option_and_then unless_null o) ≡ option_and_then unless_null o
value_erased None e = refl
value_erased (Some d) e = unless_null_as_it_was d cc

-- the normal form of a free map stays
free_again : (es : List (List ℕ × Option Data)) → norm_free (norm_free es) ≡ norm_free es
free_again [] = refl
free_again (e ∷ es) = let f = value_again e.1 in let g = free_again es in cc

-- it has the same members
free_there : (es : List (List ℕ × Option Data)) → free_members (norm_free es) ≡ free_members es
free_there [] = refl
free_there (e ∷ es) = let f = value_there e.1 in let g = free_there es in cc

-- it stays erased
free_erased : (es : List (List ℕ × Option Data)) → erased_values es ≡ es → erased_values (norm_free es) ≡ norm_free es
free_erased [] h = refl
free_erased (e ∷ es) h =
    let a : option_map erased e.1 ≡ e.1 = cc in
    let f = value_erased e.1 a in
    let g = free_erased es cc in
    cc

-- ---- details

-- the compact text of a `detail` reads as the text did
detail_again : (t : List ℕ) (d : Data) → read t ≡ Some d → has_float d ≡ false → read (compact_text (unwrap_or (read t) null)) ≡ read t
detail_again t d e none = rw e (read_again t d e none)

-- what is not null is not null in the normal form
still_not_null : (s : Shape) → MayBe s → (p : Plain) → Writable s p → is_null (value s p) ≡ false → is_null (value s (norm s p)) ≡ false
unfolding MayBe
still_not_null detail may p writable k = ap (λ o. is_null (unwrap_or o null)) (detail_again (text_of p) writable.0 writable.1 writable.2) ∙ k
still_not_null s may p writable k = never_null s (norm s p) may

-- an empty list stays one, and so does another
each_stays : (v : Plain → Data) (n : Plain → Plain) (ps : Plains) → is_empty_array (array (each_value v (each_plain n ps))) ≡ is_empty_array (array (each_value v ps))
each_stays v n no_plains = refl
each_stays v n (plain.plain p ps) = refl

-- ---- the normal form is stable

-- the normal form fits, is writable and is its own
abbrev IsStable : Shape → Plain → Type 0
IsStable s p = Fits s (norm s p) × Writable s (norm s p) × (norm s (norm s p) ≡ norm s p)

-- so is the normal form of a member
abbrev IsStableMember : Presence → Shape → Slot → Type 0
IsStableMember presence s x =
    FitsMember presence (Fits s) (norm_member presence (value s) (norm s) x)
    × IfFilled (Writable s) (norm_member presence (value s) (norm s) x)
    × (norm_member presence (value s) (norm s) (norm_member presence (value s) (norm s) x) ≡ norm_member presence (value s) (norm s) x)

-- a member that may be absent, and is none in the normal form if b is true
abbrev IsStableOr : Presence → Shape → Slot → Type 0
IsStableOr presence s x = IfFilled (Fits s) x × IfFilled (Writable s) x × (norm_member presence (value s) (norm s) x ≡ x)

-- a member that is omitted where it is none
optional_stable : (s : Shape) (q : Plain) (b : Bool) → (b ≡ false → Fits s q × Writable s q × (norm s q ≡ q) × (is_null (value s q) ≡ false))
    → IsStableOr optional s (cond b empty (filled q))
optional_stable s q true f = (tt, tt, refl)
optional_stable s q false f = let g = f refl in (g.0, g.1, rw (g.3, g.2) refl)

-- a member that is written as null where it is none
nullable_stable : (s : Shape) (q : Plain) (b : Bool) → (b ≡ false → Fits s q × Writable s q × (norm s q ≡ q) × (is_null (value s q) ≡ false))
    → IsStableOr nullable s (cond b empty (filled q))
nullable_stable s q true f = (tt, tt, refl)
nullable_stable s q false f = let g = f refl in (g.0, g.1, rw (g.3, g.2) refl)

-- a list that is omitted where it is empty
unless_empty_stable : (s : Shape) (q : Plain) (b : Bool) → (b ≡ false → Fits s q × Writable s q × (norm s q ≡ q) × (is_empty_array (value s q) ≡ false))
    → IsStableOr unless_empty s (cond b empty (filled q))
unless_empty_stable s q true f = (tt, tt, refl)
unless_empty_stable s q false f = let g = f refl in (g.0, g.1, rw (g.3, g.2) refl)

-- a listed member
member_stable : (presence : Presence) (s : Shape) → MemberIsWellFormed presence s (WellFormed s)
    → (MayBe s → (p : Plain) → Fits s p → Writable s p → IsStable s p)
    → (x : Slot) → FitsMember presence (Fits s) x → IfFilled (Writable s) x → IsStableMember presence s x
unfolding MayBe
member_stable required s w f empty fits writable = absurd fits
member_stable required s w f (filled p) fits writable =
    let g = f (may_be s (WellFormed s) w) p fits writable in (g.0, g.1, ap filled g.2)
member_stable (defaulted q) s w f empty fits writable = absurd fits
member_stable (defaulted q) s w f (filled p) fits writable =
    let g = f (may_be s (WellFormed s) w.0) p fits writable in (g.0, g.1, ap filled g.2)
member_stable optional s w f empty fits writable = (tt, tt, refl)
member_stable optional s w f (filled p) fits writable =
    let g = f w p fits writable in
    optional_stable s (norm s p) (is_null (value s p)) (λ e. (g.0, g.1, g.2, still_not_null s w p writable e))
member_stable nullable s w f empty fits writable = (tt, tt, refl)
member_stable nullable s w f (filled p) fits writable =
    let m = may_be s (WellFormed s) w in
    let g = f m p fits writable in
    nullable_stable s (norm s p) (is_null (value s p)) (λ e. (g.0, g.1, g.2, still_not_null s m p writable e))
member_stable unless_empty s w f empty fits writable = (tt, tt, refl)
member_stable unless_empty (list s) w f (filled p) fits writable =
    let g = f (may_be (list s) (WellFormed s) w) p fits writable in
    unless_empty_stable (list s) (norm (list s) p) (is_empty_array (value (list s) p))
    (λ e. (g.0, g.1, g.2, each_stays (value s) (norm s) (list_of p) ∙ e))
member_stable unless_empty _ w f (filled p) fits writable = absurd w

-- part by part
each_stable : (F W : Plain → Type 0) (n : Plain → Plain) → ((p : Plain) → F p → W p → F (n p) × W (n p) × (n (n p) ≡ n p))
    → (ps : Plains) → Each F ps → Each W ps → Each F (each_plain n ps) × Each W (each_plain n ps) × (each_plain n (each_plain n ps) ≡ each_plain n ps)
each_stable F W n f no_plains fits writable = (tt, tt, refl)
each_stable F W n f (plain.plain p ps) fits writable =
    let g = f p fits.0 writable.0 in
    let h = each_stable F W n f ps fits.1 writable.1 in
    let a = g.2 in
    let b = h.2 in
    ((g.0, h.0), (g.1, h.1), cc)

-- entry by entry
each_entry_stable : (F W : Plain → Type 0) (n : Plain → Plain) → ((p : Plain) → F p → W p → F (n p) × W (n p) × (n (n p) ≡ n p))
    → (es : Entries) → EachEntry F es → EachEntry W es
    → EachEntry F (each_entry n es) × EachEntry W (each_entry n es) × (each_entry n (each_entry n es) ≡ each_entry n es)
each_entry_stable F W n f no_entries fits writable = (tt, tt, refl)
each_entry_stable F W n f (entry k p es) fits writable =
    let g = f p fits.0 writable.0 in
    let h = each_entry_stable F W n f es fits.1 writable.1 in
    let a = g.2 in
    let b = h.2 in
    ((g.0, h.0), (g.1, h.1), cc)

-- shape by shape
mutual
  unfolding MayBe

  pub stable : (s : Shape) → MayBe s → (p : Plain) → Fits s p → Writable s p → IsStable s p
  stable text may p fits writable = (fits, writable, refl)
  stable truth may p fits writable = (fits, writable, refl)
  stable (whole low high) may p fits writable = (fits, writable, refl)
  stable (named table) may p fits writable = (fits, writable, refl)
  stable (open_name table) may (plain.variant t) fits writable = (fits, tt, refl)
  stable (open_name table) may (plain.other t) fits writable = (open_fits table t, tt, open_again table t)
  stable (open_name table) may _ fits writable = absurd fits
  stable digest_text may p fits writable = (fits, writable, refl)
  stable cpu_text may p fits writable = (fits, writable, refl)
  stable (cap_set table) may p fits writable = (fits, writable, refl)
  stable (list s) may p fits writable =
      let g = each_stable (λ q. Fits s q) (λ q. Writable s q) (norm s)
      (λ q f w. stable s (may_be s (WellFormed s) may) q f w) (list_of p)
      (subst (λ p. Each (Fits s) (list_of p)) (sym fits.1) fits.2) writable in
      ((_, refl, g.0), g.1, ap plain.list g.2)
  stable (map s) may p fits writable =
      let g = each_entry_stable (λ q. Fits s q) (λ q. Writable s q) (norm s)
      (λ q f w. stable s (may_be s (WellFormed s) may) q f w) (map_of p)
      (subst (λ p. EachEntry (Fits s) (map_of p)) (sym fits.1) fits.2) writable in
      ((_, refl, g.0), g.1, ap plain.map g.2)
  stable key_set may p fits writable = ((_, refl), tt, ap plain.keys (sorted_again (keys_of p)))
  stable detail may p fits writable =
      let e = detail_again (text_of p) writable.0 writable.1 writable.2 in
      ((_, refl), (writable.0, e ∙ writable.1, writable.2), ap (λ o. plain.text (compact_text (unwrap_or o null))) e)
  stable free_map may p fits writable = (
    (_, refl, free_erased (free_of p) (subst (λ p. erased_values (free_of p) ≡ free_of p) (sym fits.1) fits.2)),
    ap members_have_float (free_there (free_of p)) ∙ writable,
    ap plain.free (free_again (free_of p)),
  )
  stable (rows rs) may p fits writable =
      let g = rows_stable rs may.1 (document_of p) (subst (λ p. FitsRows rs (document_of p)) (sym fits.1) fits.2) writable in
      ((_, refl, g.0), g.1, ap plain.document g.2)

  rows_stable : (rs : Rows) → AreWellFormed rs → (xs : Slots) → FitsRows rs xs → AreWritable rs xs
      → FitsRows rs (norm_rows rs xs) × AreWritable rs (norm_rows rs xs) × (norm_rows rs (norm_rows rs xs) ≡ norm_rows rs xs)
  rows_stable no_rows well no_slots fits writable = (tt, tt, refl)
  rows_stable no_rows well (slot x xs) fits writable = absurd fits
  rows_stable (row name second presence s rs) well no_slots fits writable = absurd fits
  rows_stable (row name second presence s rs) well (slot x xs) fits writable =
      let g = member_stable presence s well.0 (λ may p. stable s may p) x fits.0 writable.0 in
      let h = rows_stable rs well.1 xs fits.1 writable.1 in
      let a = g.2 in
      let b = h.2 in
      ((g.0, h.0), (g.1, h.1), cc)

-- ---- the value of the normal form

-- a tree that is not null
not_null : (d : Data) → d ≢ null → is_null d ≡ false
not_null null other = absurd (other refl)
not_null (boolean b) other = refl
not_null (number n) other = refl
not_null (string t) other = refl
not_null (array ds) other = refl
not_null (object ms) other = refl

-- a member is not null
written_not_null : (s : Shape) → MayBe s → (p : Plain) → Writable s p → HasNoNullDetail s p → is_null (value s p) ≡ false
unfolding MayBe
written_not_null detail may p writable other =
    ap (λ o. is_null (unwrap_or o null)) writable.1 ∙ not_null writable.0 (λ same. other (writable.1 ∙ ap Some same))
written_not_null s may p writable other = never_null s p may

-- a shape whose normal form has the same value
abbrev KeepsValue : Shape → Plain → Type 0
KeepsValue s p = value s (norm s p) ≡ value s p

-- a member that is not null is written alike
unless_null_same : (presence : Presence) (v : Plain → Data) (n : Plain → Plain) (p : Plain) (b : Bool) → b ≡ false
    → member_value presence v (filled (n p)) ≡ member_value presence v (filled p)
    → member_value presence v (cond b empty (filled (n p))) ≡ member_value presence v (filled p)
unless_null_same presence v n p true none e = absurd (true≢false none)
unless_null_same presence v n p false none e = e

-- a list is omitted alike
unless_empty_same : (v : Plain → Data) (n : Plain → Plain) (p : Plain) → v (n p) ≡ v p
    → member_value unless_empty v (cond (is_empty_array (v p)) empty (filled (n p))) ≡ member_value unless_empty v (filled p)
unless_empty_same v n p e = here (is_empty_array (v p)) refl
  where
    here : (b : Bool) → is_empty_array (v p) ≡ b → member_value unless_empty v (cond b empty (filled (n p))) ≡ cond b None (Some (v p))
    here true k = refl
    here false k = rw (e, k) refl

-- a listed member is written alike
member_same : (presence : Presence) (s : Shape) → MemberIsWellFormed presence s (WellFormed s)
    → (MayBe s → (p : Plain) → Writable s p → HasNoNullDetail s p → KeepsValue s p)
    → (x : Slot) → IfFilled (Writable s) x → IfFilled (HasNoNullDetail s) x
    → member_value presence (value s) (norm_member presence (value s) (norm s) x) ≡ member_value presence (value s) x
unfolding MayBe
member_same required s w f empty writable other = refl
member_same required s w f (filled p) writable other = ap Some (f (may_be s (WellFormed s) w) p writable other)
member_same (defaulted q) s w f empty writable other = refl
member_same (defaulted q) s w f (filled p) writable other = ap Some (f (may_be s (WellFormed s) w.0) p writable other)
member_same optional s w f empty writable other = refl
member_same optional s w f (filled p) writable other =
    unless_null_same optional (value s) (norm s) p (is_null (value s p)) (written_not_null s w p writable other) (ap Some (f w p writable other))
member_same nullable s w f empty writable other = refl
member_same nullable s w f (filled p) writable other =
    let m = may_be s (WellFormed s) w in
    unless_null_same nullable (value s) (norm s) p (is_null (value s p)) (written_not_null s m p writable other) (ap Some (f m p writable other))
member_same unless_empty s w f empty writable other = refl
member_same unless_empty (list s) w f (filled p) writable other =
    unless_empty_same (value (list s)) (norm (list s)) p (f (may_be (list s) (WellFormed s) w) p writable other)
member_same unless_empty _ w f (filled p) writable other = absurd w

-- the items of a list are
each_same : (W O : Plain → Type 0) (v : Plain → Data) (n : Plain → Plain) → ((p : Plain) → W p → O p → v (n p) ≡ v p)
    → (ps : Plains) → Each W ps → Each O ps → each_value v (each_plain n ps) ≡ each_value v ps
each_same W O v n f no_plains writable other = refl
each_same W O v n f (plain.plain p ps) writable other =
    let g = f p writable.0 other.0 in
    let h = each_same W O v n f ps writable.1 other.1 in
    cc

-- the members of a map are
each_entry_same : (W O : Plain → Type 0) (v : Plain → Data) (n : Plain → Plain) → ((p : Plain) → W p → O p → v (n p) ≡ v p)
    → (es : Entries) → EachEntry W es → EachEntry O es → each_entry_value v (each_entry n es) ≡ each_entry_value v es
each_entry_same W O v n f no_entries writable other = refl
each_entry_same W O v n f (entry k p es) writable other =
    let g = f p writable.0 other.0 in
    let h = each_entry_same W O v n f es writable.1 other.1 in
    cc

-- shape by shape
mutual
  unfolding MayBe

  pub same_value : (s : Shape) → MayBe s → (p : Plain) → Writable s p → HasNoNullDetail s p → KeepsValue s p
  same_value text may p writable other = refl
  same_value truth may p writable other = refl
  same_value (whole low high) may p writable other = refl
  same_value (named table) may p writable other = refl
  same_value (open_name table) may (plain.other t) writable other = ap string (open_text_by (is_listed table t) t)
  same_value (open_name table) may _ writable other = refl
  same_value digest_text may p writable other = refl
  same_value cpu_text may p writable other = refl
  same_value (cap_set table) may p writable other = refl
  same_value (list s) may p writable other =
      ap array (each_same (λ q. Writable s q) (λ q. HasNoNullDetail s q) (value s) (norm s)
      (λ q w o. same_value s (may_be s (WellFormed s) may) q w o) (list_of p) writable other)
  same_value (map s) may p writable other =
      ap object (each_entry_same (λ q. Writable s q) (λ q. HasNoNullDetail s q) (value s) (norm s)
      (λ q w o. same_value s (may_be s (WellFormed s) may) q w o) (map_of p) writable other)
  same_value key_set may p writable other = ap (λ ks. object (empty_objects ks)) (sorted_again (keys_of p))
  same_value detail may p writable other =
      ap (λ o. unwrap_or o null) (detail_again (text_of p) writable.0 writable.1 writable.2)
  same_value free_map may p writable other = ap object (free_there (free_of p))
  same_value (rows rs) may p writable other = ap object (rows_same rs may.1 (document_of p) writable other no_members)

  rows_same : (rs : Rows) → AreWellFormed rs → (xs : Slots) → AreWritable rs xs
      → EachDetailOf (λ t. read t ≢ Some null) rs xs → (ms : Members) → with_rows rs (norm_rows rs xs) ms ≡ with_rows rs xs ms
  rows_same no_rows well xs writable other ms = refl
  rows_same (row name second presence s rs) well no_slots writable other ms = refl
  rows_same (row name second presence s rs) well (slot x xs) writable other ms =
      let e = member_same presence s well.0 (λ may p. same_value s may p) x writable.0 other.0 in
      ap (λ o. with_rows rs (norm_rows rs xs) (with_member name o ms)) e
      ∙ rows_same rs well.1 xs writable.1 other.1 (with_member name (member_value presence (value s) x) ms)
