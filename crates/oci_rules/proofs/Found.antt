-- What lists contain.
use Rattle.std.proofs.Common.{◌≡◌, ℕ, zero, List, [], ◌∷◌, ◌++◌, Bool, true, false, refl, sym, arith, true≢false}
use Rattle.std.specs.Prelude.{◌↔◌}
use Rattle.std.specs.List.{Contains}
use Rattle.oci_schema.proofs.EachPart.{nothing_in, one_in}
use Rattle.oci_rules.specs.Rules.{Rule}
use Rattle.oci_rules.specs.Breaks.{Told}
use Rattle.oci_rules.specs.Listed.{unless, when}

pub not_nil : {A P : Type 0} (x : A) (xs : List A) → x ∷ xs ≡ [] → P
not_nil x xs e = absurd cc

pub first_in : {A : Type 0} (x : A) (xs : List A) → Contains (x ∷ xs) x
first_in x xs = (zero, omega arith, refl)

pub none_if : {A : Type 0} (xs : List A) → ((x : A) → Contains xs x → ⊥) → xs ≡ []
none_if [] h = refl
none_if (x ∷ xs) h = absurd (h x (first_in x xs))

pub none_of : {A : Type 0} (xs : List A) (x : A) → xs ≡ [] → Contains xs x → ⊥
none_of [] x e h = nothing_in x h
none_of (y ∷ xs) x e h = not_nil y xs e

pub in_unless : (b : Bool) (r : Rule) (s : List ℕ) (x : Told) → Contains (unless b r s) x ↔ ((b ≡ false) × ((r, s) ≡ x))
in_unless true r s x = ((λ h. nothing_in x h), (λ h. absurd (true≢false h.0)))
in_unless false r s x = ((λ h. (refl, one_in (r, s) x h)), (λ h. shown h.1))
  where
    shown : (r, s) ≡ x → Contains ((r, s) ∷ []) x
    shown e = (zero, omega arith, e)

pub in_when : (b : Bool) (xs : List Told) (x : Told) → Contains (when b xs) x ↔ ((b ≡ true) × Contains xs x)
in_when true xs x = ((λ h. (refl, h)), (λ h. h.1))
in_when false xs x = ((λ h. nothing_in x h), (λ h. absurd (true≢false (sym h.0))))

pub no_more : {A : Type 0} (xs ys : List A) → xs ≡ [] → ys ≡ [] → xs ++ ys ≡ []
no_more xs ys e h = rw (e, h) refl

pub none_first : {A : Type 0} (xs ys : List A) → xs ++ ys ≡ [] → xs ≡ []
none_first [] ys e = refl
none_first (x ∷ xs) ys e = cc

pub none_later : {A : Type 0} (xs ys : List A) → xs ++ ys ≡ [] → ys ≡ []
none_later [] ys e = e
none_later (x ∷ xs) ys e = cc

pub none_unless : (b : Bool) (r : Rule) (s : List ℕ) → (unless b r s ≡ []) ↔ (b ≡ true)
none_unless true r s = ((λ e. refl), (λ e. refl))
none_unless false r s = ((λ e. cc e), (λ e. absurd (true≢false (sym e))))
