-- Maps of free values.
use Rattle.std.proofs.Common.{◌≡◌, ℕ, List, [], ◌∷◌, ◌++◌, Option, Some, None, option_map, unwrap_or, Bool, true, false, String, Global, Ordering, Less, Equal, Greater, string_bytes, string_cmp, nat_cmp, refl, ◌∙◌, sym, ap, true≢false}
use Rattle.std.specs.Ordering.{match_ordering, ordering_reverse}
use Rattle.std.specs.Cmp.Lexicographic.{slice_cmp}
use Rattle.std.specs.List.{AllByRecursion}
use Rattle.std.specs.List.Sorted.{IsStrictlySortedBy}
use Rattle.std.specs.Map.{keys_of}
use Rattle.std.specs.BTreeMap.{insert_entry}
use Rattle.std.proofs.lemmas.Cmp.{nat_list_cmp_total}
use Rattle.serde_json.specs.Data.{Data, null, Members, no_members, member, object, put}
use Rattle.serde_json.specs.Find.{as_object}
use Rattle.serde_json.specs.View.{view}
use Rattle.serde_json.specs.Written.{members_have_float}
use Rattle.serde_json.specs.declared.value.Value.{Value}
use Rattle.oci_model.specs.Erased.{erased, erased_values, erased_members}
use Rattle.oci_model.specs.FreeValues.{FreeEntry, values_view, free_plain}
use Rattle.oci_model.specs.Fits.{Fits}
use Rattle.oci_model.specs.Means.{unless_null, free_values, Means}
use Rattle.oci_model.specs.Value.{free_members, value}
use Rattle.oci_model.specs.Shape.{free_map}
use Rattle.oci_model.specs.Plain as plain
use Rattle.oci_model.specs.Refused.{IsRefused}
use Rattle.oci_model.proofs.Erasing.{erased_free_values, erased_values-once, members_as_they_were, members_have_float-erased}

-- the values, with one more
abbrev pub insert_value : List ℕ → Option Data → List (List ℕ × Option Data) → List (List ℕ × Option Data)
insert_value k v [] = (k, v) ∷ []
insert_value k v (e ∷ es) = match_ordering (slice_cmp nat_cmp k e.0) ((k, v) ∷ (e ∷ es)) ((e.0, v) ∷ es) (e ∷ insert_value k v es)

values_view-match_ordering : (o : Ordering) (a b c : List FreeEntry) → values_view (match_ordering o a b c) ≡ match_ordering o (values_view a) (values_view b) (values_view c)
values_view-match_ordering Less a b c = refl
values_view-match_ordering Equal a b c = refl
values_view-match_ordering Greater a b c = refl

pub values_view-insert_entry : (es : List FreeEntry) (k : String Global) (v : Option Value)
    → values_view (insert_entry string_cmp es k v) ≡ insert_value (string_bytes k) (option_map view v) (values_view es)
values_view-insert_entry [] k v = refl
values_view-insert_entry (e ∷ es) k v = values_view-match_ordering (string_cmp k e.0) _ _ _ ∙ rw (values_view-insert_entry es k v) refl

free_values-match_ordering : (o : Ordering) (a b c : Members) → match_ordering o (free_values a) (free_values b) (free_values c) ≡ free_values (match_ordering o a b c)
free_values-match_ordering Less a b c = refl
free_values-match_ordering Equal a b c = refl
free_values-match_ordering Greater a b c = refl

pub free_values-put : (k : List ℕ) (d : Data) (ms : Members) → insert_value k (unless_null d) (free_values ms) ≡ free_values (put k d ms)
free_values-put k d no_members = refl
free_values-put k d (member l e ms) = rw (free_values-put k d ms) (free_values-match_ordering (slice_cmp nat_cmp k l) _ _ _)

-- ---- the value of the values

below_middle : (first : FreeEntry) (es : List FreeEntry) (e : FreeEntry) (more : List FreeEntry) → AllByRecursion (λ y. string_cmp first.0 y ≡ Less) (keys_of (es ++ e ∷ more)) → string_cmp first.0 e.0 ≡ Less
below_middle first [] e more h = h.0
below_middle first (x ∷ es) e more h = below_middle first es e more h.1

pub value_last : (done : List FreeEntry) (e : FreeEntry) (more : List FreeEntry) → IsStrictlySortedBy string_cmp (keys_of (done ++ e ∷ more))
    → put (string_bytes e.0) (unwrap_or (option_map view e.1) null) (free_members (values_view done)) ≡ free_members (values_view (done ++ e ∷ []))
unfolding IsStrictlySortedBy
value_last [] e more h = refl
value_last (first ∷ done) e more h =
    let above : slice_cmp nat_cmp (string_bytes e.0) (string_bytes first.0) ≡ Greater =
    nat_list_cmp_total.antisymm (string_bytes e.0) (string_bytes first.0) ∙ ap ordering_reverse (below_middle first done e more h.0) in
    rw above (ap (member (string_bytes first.0) (unwrap_or (option_map view first.1) null)) (value_last done e more h.1))

-- ---- erased values

value_erased : (o : Option Data) → unwrap_or (option_map erased o) null ≡ erased (unwrap_or o null)
value_erased None = refl
value_erased (Some d) = refl

free_members-erased : (es : List (List ℕ × Option Data)) → free_members (erased_values es) ≡ erased_members (free_members es)
free_members-erased [] = refl
free_members-erased (e ∷ es) = let f = value_erased e.1 in let g = free_members-erased es in cc

-- ---- what the type's conversions owe

pub means : (d : Data) (ms : Members) (es : List FreeEntry) → as_object d ≡ Some ms → members_have_float ms ≡ false → values_view es ≡ free_values ms
    → Means free_map d (free_plain es)
means d ms es there none e = (ms, there, ap (λ vs. plain.free (erased_values vs)) e ∙ ap plain.free (erased_free_values ms none), none)

pub refused_float : (d : Data) (ms : Members) → as_object d ≡ Some ms → members_have_float ms ≡ true → IsRefused free_map d
unfolding IsRefused
refused_float d ms there some p m =
    let same : ms ≡ m.0 = let k = sym there ∙ m.1 in cc in
    true≢false (sym some ∙ ap members_have_float same ∙ m.3)

pub refused_other : (d : Data) → None ≡ as_object d → IsRefused free_map d
unfolding IsRefused
refused_other d none p m = let k = none ∙ m.1 in cc

pub writes : (es : List FreeEntry) (ms : Members) → ms ≡ free_members (values_view es) → members_have_float (free_members (values_view es)) ≡ false
    → object ms ≡ value free_map (free_plain es)
writes es ms e none =
    ap object (e ∙ sym (members_as_they_were (free_members (values_view es)) none) ∙ sym (free_members-erased (values_view es)))

pub fits : (es : List FreeEntry) → Fits free_map (free_plain es)
fits es = (_, refl, erased_values-once (values_view es))

pub floats_kept : (es : List FreeEntry) (b : Bool) → members_have_float (free_members (values_view es)) ≡ b → members_have_float (free_members (erased_values (values_view es))) ≡ b
floats_kept es b e = ap members_have_float (free_members-erased (values_view es)) ∙ members_have_float-erased (free_members (values_view es)) ∙ e

-- ---- a copy

pub view_last : (done : List FreeEntry) (e : FreeEntry) (more : List FreeEntry) → IsStrictlySortedBy string_cmp (keys_of (done ++ e ∷ more))
    → insert_value (string_bytes e.0) (option_map view e.1) (values_view done) ≡ values_view (done ++ e ∷ [])
unfolding IsStrictlySortedBy
view_last [] e more h = refl
view_last (first ∷ done) e more h =
    let above : slice_cmp nat_cmp (string_bytes e.0) (string_bytes first.0) ≡ Greater =
    nat_list_cmp_total.antisymm (string_bytes e.0) (string_bytes first.0) ∙ ap ordering_reverse (below_middle first done e more h.0) in
    rw above (ap (λ vs. (string_bytes first.0, option_map view first.1) ∷ vs) (view_last done e more h.1))
