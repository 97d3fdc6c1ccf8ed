-- Whether a text has a mark, and its cut at the first one.
use Rattle.std.proofs.Common.{◌≡◌, ◌≢◌, ℕ, ◌||◌, Bool, true, false, List, [], ◌∷◌, ◌++◌, ne_eqb, refl, sym, ap, ◌∙◌}
use Rattle.std.specs.Prelude.{◌==◌}
use Rattle.std.proofs.lemmas.Bool.{eqb-true, eq-eqb}
use Rattle.oci_base.specs.Classes.{has, until, after}
use Rattle.oci_base.proofs.Lacks.{Lacks}

pub has_at : (c : ℕ) (x y : List ℕ) → has c (x ++ c ∷ y) ≡ true
has_at c [] y = rw (eq-eqb c c refl) refl
has_at c (b ∷ x) y = rw (has_at c x y) (or-true (b == c))
  where
    or-true : (z : Bool) → (z || true) ≡ true
    or-true true = refl
    or-true false = refl

pub lacks_not_has : (c : ℕ) (t : List ℕ) → has c t ≡ false → Lacks c t
lacks_not_has c [] h = tt
lacks_not_has c (b ∷ t) h = go (b == c) refl h (lacks_not_has c t)
  where
    go : (same : Bool) → (b == c) ≡ same → (same || has c t) ≡ false → (has c t ≡ false → Lacks c t) → (b ≢ c) × Lacks c t
    go true e k rec = cc k
    go false e k rec = ((λ is. let clash : true ≡ false = sym (eq-eqb b c is) ∙ e in cc clash), rec k)

pub first_cut : (c : ℕ) (t : List ℕ) → has c t ≡ true → (x y : List ℕ) × Lacks c x × (t ≡ x ++ c ∷ y)
first_cut c [] h = cc h
first_cut c (b ∷ t) h = go (b == c) refl h (first_cut c t)
  where
    go : (same : Bool) → (b == c) ≡ same → (same || has c t) ≡ true → (has c t ≡ true → (x y : List ℕ) × Lacks c x × (t ≡ x ++ c ∷ y))
        → (x y : List ℕ) × Lacks c x × (b ∷ t ≡ x ++ c ∷ y)
    go true e k rec = ([], t, tt, ap (λ z. z ∷ t) (eqb-true b c e))
    go false e k rec =
        let (x, y, l, s) = rec k in
        (b ∷ x, y, ((λ is. let clash : true ≡ false = sym (eq-eqb b c is) ∙ e in cc clash), l), ap (λ z. b ∷ z) s)

pub until_is : (c : ℕ) (x y : List ℕ) → Lacks c x → (until c (x ++ c ∷ y) ≡ x) × (after c (x ++ c ∷ y) ≡ y)
until_is c [] y h = rw (eq-eqb c c refl) (refl, refl)
until_is c (b ∷ x) y h =
    let (front, back) = until_is c x y h.1 in
    rw (ne_eqb b c h.0) (ap (λ z. b ∷ z) front, back)

pub has_none : (c : ℕ) (t : List ℕ) → Lacks c t → has c t ≡ false
has_none c [] h = refl
has_none c (b ∷ t) h = rw (ne_eqb b c h.0) (has_none c t h.1)

-- a text without the mark is not cut
pub not_cut : (c : ℕ) (t : List ℕ) → Lacks c t → (until c t ≡ t) × (after c t ≡ [])
not_cut c [] h = (refl, refl)
not_cut c (b ∷ t) h =
    let (front, back) = not_cut c t h.1 in
    rw (ne_eqb b c h.0) (ap (λ z. b ∷ z) front, back)
