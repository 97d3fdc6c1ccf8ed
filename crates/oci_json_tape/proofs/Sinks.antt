-- What a sink holds after one call, and after two.
use Rattle.std.proofs.Common.{◌≡◌, ℕ, List, [], ◌∷◌, ◌++◌}
use Rattle.json.specs.Token.{Token, key}
use Rattle.oci_json_tape.specs.Sinks.{Writes}

module _ {S : Type 0} {H : S → List Token → Type 0} where
  pub kept : {R Q : List Token → List Token → Type 0} {old new : S} → Writes H R old new → ((a b : List Token) → R a b → Q a b) → Writes H Q old new
  kept w f = record { each = λ a h. let x = w.each a h in (x.0, x.1, f a x.0 x.2) }

  pub and_then : {R Q P : List Token → List Token → Type 0} {old mid new : S} → Writes H R old mid → Writes H Q mid new → ((a b c : List Token) → R a b → Q b c → P a c) → Writes H P old new
  and_then w v f = record { each = λ a h. let x = w.each a h in let y = v.each x.0 x.1 in (y.0, y.1, f a x.0 y.0 x.2 y.2) }

  -- a name, and what follows it
  pub with_key : {k : List ℕ} {R : List Token → List Token → Type 0} {old mid new : S} → Writes H (λ a b. b ≡ a ++ key k ∷ []) old mid → Writes H R mid new
      → Writes H (λ a c. (m : List Token) × (m ≡ a ++ key k ∷ []) × R m c) old new
  with_key w v = and_then w v (λ a m c is r. (m, is, r))
