-- Sorting what is sorted changes nothing, and the order in which texts are sorted in makes no difference.
use Rattle.std.proofs.Common.{◌≡◌, ℕ, List, [], ◌∷◌, Ordering, Less, Equal, Greater, nat_cmp, refl, ◌∙◌, ap}
use Rattle.std.specs.Prelude.{⊤}
use Rattle.std.specs.Ordering.{match_ordering, ordering_reverse}
use Rattle.std.specs.Cmp.Lexicographic.{slice_cmp}
use Rattle.std.proofs.lemmas.Cmp.{nat_list_cmp_total}
use Rattle.oci_model.specs.Value.{with_text, sorted}

-- the text stands before the first of the others
abbrev IsBelow : List ℕ → List (List ℕ) → Type 0
IsBelow t [] = ⊤
IsBelow t (u ∷ us) = slice_cmp nat_cmp t u ≡ Less

-- each text stands before the next
abbrev pub IsSorted : List (List ℕ) → Type 0
IsSorted [] = ⊤
IsSorted (t ∷ ts) = IsBelow t ts × IsSorted ts

-- a text below the others and a new one is below them once that is put in
below_with : (u t : List ℕ) (us : List (List ℕ)) → slice_cmp nat_cmp u t ≡ Less → IsBelow u us → IsBelow u (with_text t us)
below_with u t [] e h = e
below_with u t (v ∷ vs) e h = here (slice_cmp nat_cmp t v)
  where
    here : (o : Ordering) → IsBelow u (match_ordering o (t ∷ (v ∷ vs)) (v ∷ vs) (v ∷ with_text t vs))
    here Less = e
    here Equal = h
    here Greater = h

-- a text that is put in leaves the others sorted
sorted_with : (t : List ℕ) (ts : List (List ℕ)) → IsSorted ts → IsSorted (with_text t ts)
sorted_with t [] h = (tt, tt)
sorted_with t (u ∷ us) h = here (slice_cmp nat_cmp t u) refl (sorted_with t us h.1)
  where
    here : (o : Ordering) → slice_cmp nat_cmp t u ≡ o → IsSorted (with_text t us) → IsSorted (match_ordering o (t ∷ (u ∷ us)) (u ∷ us) (u ∷ with_text t us))
    here Less e k = (e, h)
    here Equal e k = h
    here Greater e k = (below_with u t us (nat_list_cmp_total.antisymm u t ∙ ap ordering_reverse e) h.0, k)

-- sorted texts are so
pub is_sorted : (ts : List (List ℕ)) → IsSorted (sorted ts)
is_sorted [] = tt
is_sorted (t ∷ ts) = sorted_with t (sorted ts) (is_sorted ts)

-- a text below the others is put in front
with_first : (t : List ℕ) (ts : List (List ℕ)) → IsBelow t ts → with_text t ts ≡ t ∷ ts
with_first t [] h = refl
with_first t (u ∷ us) h = rw h refl

-- what is sorted stays
kept_sorted : (ts : List (List ℕ)) → IsSorted ts → sorted ts ≡ ts
kept_sorted [] h = refl
kept_sorted (t ∷ ts) h = ap (with_text t) (kept_sorted ts h.1) ∙ with_first t ts h.0

-- sorting twice is sorting once
pub sorted_again : (ts : List (List ℕ)) → sorted (sorted ts) ≡ sorted ts
sorted_again ts = kept_sorted (sorted ts) (is_sorted ts)
