-- The order in which texts are sorted in makes no difference.
use Rattle.std.proofs.Common.{◌≡◌, is_eq, ℕ, List, [], ◌∷◌, ◌++◌, Ordering, Less, Equal, Greater, nat_cmp, refl, ◌∙◌, sym, ap}
use Rattle.std.specs.Ordering.{match_ordering, ordering_reverse}
use Rattle.std.specs.Cmp.Lexicographic.{slice_cmp}
use Rattle.std.proofs.lemmas.Cmp.{nat_list_cmp_total}
use Rattle.std.proofs.lemmas.Map.Text.{is_eq-slice_cmp}
use Rattle.std.proofs.lemmas.Slice.Eq.{bytes_eq-Decides}
use Rattle.oci_model.specs.Value.{with_text, sorted}

-- compared the other way round
turned : (s t : List ℕ) (o : Ordering) → slice_cmp nat_cmp s t ≡ o → slice_cmp nat_cmp t s ≡ ordering_reverse o
turned s t o e = nat_list_cmp_total.antisymm t s ∙ ap ordering_reverse e

-- texts that compare as equal are the same
alike : (s t : List ℕ) → slice_cmp nat_cmp s t ≡ Equal → s ≡ t
alike s t e = (bytes_eq-Decides s t).0 (sym (is_eq-slice_cmp s t) ∙ ap is_eq e)

-- in either order, where nothing else stands
commute_empty : (a b : List ℕ) (z : Ordering) → slice_cmp nat_cmp a b ≡ z → with_text a (b ∷ []) ≡ with_text b (a ∷ [])
commute_empty a b Less e = rw (e, turned a b Less e) refl
commute_empty a b Equal e = rw (e, turned a b Equal e) (ap (λ t. t ∷ []) (sym (alike a b e)))
commute_empty a b Greater e = rw (e, turned a b Greater e) refl

-- in either order, where both stand before the first of the others
commute_less : (a b u : List ℕ) (us : List (List ℕ)) (z : Ordering) → slice_cmp nat_cmp a b ≡ z → slice_cmp nat_cmp a u ≡ Less → slice_cmp nat_cmp b u ≡ Less
    → with_text a (b ∷ (u ∷ us)) ≡ with_text b (a ∷ (u ∷ us))
commute_less a b u us Less e x y = rw (e, turned a b Less e, y) refl
commute_less a b u us Equal e x y = rw (e, turned a b Equal e) (ap (λ t. t ∷ (u ∷ us)) (sym (alike a b e)))
commute_less a b u us Greater e x y = rw (e, turned a b Greater e, x) refl

-- in either order
commute : (a b : List ℕ) (us : List (List ℕ)) → with_text a (with_text b us) ≡ with_text b (with_text a us)
commute a b [] = commute_empty a b (slice_cmp nat_cmp a b) refl
commute a b (u ∷ us) = here (slice_cmp nat_cmp a u) (slice_cmp nat_cmp b u) refl refl (commute a b us)
  where
    here : (x y : Ordering) → slice_cmp nat_cmp a u ≡ x → slice_cmp nat_cmp b u ≡ y → with_text a (with_text b us) ≡ with_text b (with_text a us)
        → with_text a (match_ordering y (b ∷ (u ∷ us)) (u ∷ us) (u ∷ with_text b us)) ≡ with_text b (match_ordering x (a ∷ (u ∷ us)) (u ∷ us) (u ∷ with_text a us))
    here Less Less x y rest = commute_less a b u us (slice_cmp nat_cmp a b) refl x y
    here Less Equal x y rest =
        let same = alike b u y in
        let above : slice_cmp nat_cmp b a ≡ Greater = ap (λ t. slice_cmp nat_cmp t a) same ∙ turned a u Less x in
        rw (x, above, y) refl
    here Less Greater x y rest =
        let above : slice_cmp nat_cmp b a ≡ Greater = turned a b Less (nat_list_cmp_total.trans a u b x (turned b u Greater y)) in
        rw (x, above, y) refl
    here Equal Less x y rest =
        let same = alike a u x in
        let above : slice_cmp nat_cmp a b ≡ Greater = ap (λ t. slice_cmp nat_cmp t b) same ∙ turned b u Less y in
        rw (above, x, y) refl
    here Equal Equal x y rest = rw (x, y) refl
    here Equal Greater x y rest = rw (x, y) refl
    here Greater Less x y rest =
        let above : slice_cmp nat_cmp a b ≡ Greater = turned b a Less (nat_list_cmp_total.trans b u a y (turned a u Greater x)) in
        rw (above, x, y) refl
    here Greater Equal x y rest = rw (x, y) refl
    here Greater Greater x y rest = rw (x, y) (ap (λ ts. u ∷ ts) rest)

-- one more text at the end
pub sorted_push : (ts : List (List ℕ)) (t : List ℕ) → sorted (ts ++ t ∷ []) ≡ with_text t (sorted ts)
sorted_push [] t = refl
sorted_push (x ∷ ts) t = ap (with_text x) (sorted_push ts t) ∙ commute x t (sorted ts)
