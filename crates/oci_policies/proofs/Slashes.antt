-- A text that begins with a slash.
use Rattle.std.proofs.Common.{◌≡◌, ◌≢◌, ◌==◌, ℕ, List, [], ◌∷◌, Option, Some, None, Bor, refl, option_map, eqb-true, inl, inr}
use Rattle.std.proofs.lemmas.Bool.{cases_Bool}
use Rattle.std.specs.Prelude.{MatchOption}
use Rattle.oci_policies.specs.Places.{behind_slash}

other_byte : (b : ℕ) (t : List ℕ) → ((rest : List ℕ) → b ∷ t ≢ 47 ∷ rest) → None ≡ behind_slash (b ∷ t)
other_byte b t h =
    elim (cases_Bool (b == 47)) [
      | inl same ↦ absurd (h t (let is : b ≡ 47 = eqb-true b 47 same in rw is refl))
      | inr other ↦ rw other refl
    ]

pub behind_slash_is : (bs : List ℕ) (r : Option (Bor (List ℕ))) → MatchOption r ((rest : List ℕ) → bs ≢ 47 ∷ rest) (λ x. bs ≡ 47 ∷ x.now) → option_map (λ x. x.now) r ≡ behind_slash bs
behind_slash_is [] None h = refl
behind_slash_is (b ∷ t) None h = other_byte b t h
behind_slash_is bs (Some x) h = rw h refl
