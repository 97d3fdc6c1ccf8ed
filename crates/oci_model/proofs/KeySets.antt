-- Objects of objects, read as their names and written of names.
use Rattle.std.proofs.Common.{◌≡◌, ℕ, ◌+◌, ◌<◌, List, [], ◌∷◌, ◌++◌, length, take, get_or, map, String, Global, BTreeMap, string_bytes, string_cmp, Some, None, Ordering, Less, Equal, Greater, nat_cmp, refl, ◌∙◌, sym, ap, subst}
use Rattle.std.specs.Ordering.{match_ordering}
use Rattle.std.specs.Cmp.Lexicographic.{slice_cmp}
use Rattle.serde_json.specs.Data.{Data, Members, no_members, object, put}
use Rattle.serde_json.specs.Find.{as_object}
use Rattle.oci_model.specs.Means.{AreObjects}
use Rattle.oci_model.specs.Shape.{key_set}
use Rattle.oci_model.specs.Refused.{IsRefused}
use Rattle.oci_model.specs.Value.{with_text, sorted, empty_objects}
use Rattle.std.specs.BTreeMap.{insert_entry}
use Rattle.std.proofs.lemmas.List.{take_more, map-append}
use Rattle.serde_json.specs.View.{view, members_view}
use Rattle.serde_json.specs.declared.value.Value.{Value, Object}
use Rattle.serde_json.proofs.Views.{Entry, view-Object, members_view-insert_entry}
use Rattle.oci_model.proofs.Sorting.{sorted_push}

-- a choice between lists of names is one between their objects
match-empty_objects : (o : Ordering) (a b c : List (List ℕ)) → match_ordering o (empty_objects a) (empty_objects b) (empty_objects c) ≡ empty_objects (match_ordering o a b c)
match-empty_objects Less a b c = refl
match-empty_objects Equal a b c = refl
match-empty_objects Greater a b c = refl

-- an empty object is put under one more name
put_empty : (k : List ℕ) (ks : List (List ℕ)) → put k (object no_members) (empty_objects ks) ≡ empty_objects (with_text k ks)
put_empty k [] = refl
put_empty k (l ∷ ks) = rw (put_empty k ks) (match-empty_objects (slice_cmp nat_cmp k l) _ _ _)

-- what a loop knows when one more name is written
pub one_more : (old new : List Entry) (k d : String Global) (m : BTreeMap (String Global) Value) (names : List (String Global)) (i : ℕ)
    → new ≡ insert_entry string_cmp old k (Object m) → m.entries ≡ [] → members_view old ≡ empty_objects (sorted (map string_bytes (take i names)))
    → string_bytes k ≡ string_bytes (get_or names i d) → i < length names
    → members_view new ≡ empty_objects (sorted (map string_bytes (take (i + 1) names)))
one_more old new k d m names i e none before named l =
    let put_in : members_view new ≡ put (string_bytes k) (view (Object m)) (members_view old) = ap members_view e ∙ members_view-insert_entry old k (Object m) in
    let is_empty : view (Object m) ≡ object no_members = view-Object m ∙ ap (λ es. object (members_view es)) none in
    let more : map string_bytes (take (i + 1) names) ≡ map string_bytes (take i names) ++ string_bytes (get_or names i d) ∷ [] =
    ap (map string_bytes) (take_more names i d l) ∙ map-append string_bytes (take i names) (get_or names i d ∷ []) in
    put_in ∙ rw (is_empty, before, named)
    (put_empty (string_bytes (get_or names i d)) (sorted (map string_bytes (take i names)))
    ∙ ap empty_objects (sym (sorted_push (map string_bytes (take i names)) (string_bytes (get_or names i d))) ∙ ap sorted (sym more)))

-- a value that is no object
pub refused_other : (d : Data) → None ≡ as_object d → IsRefused key_set d
unfolding IsRefused
refused_other d none p m = let k = none ∙ m.1 in cc

-- an object with a value that is none
pub refused_member : (d : Data) (ms : Members) → Some ms ≡ as_object d → (AreObjects ms → ⊥) → IsRefused key_set d
unfolding IsRefused
refused_member d ms there other p m =
    let same : m.0 ≡ ms = let k = there ∙ m.1 in cc in
    other (subst AreObjects same m.3)
