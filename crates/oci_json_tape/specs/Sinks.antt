-- What a call writes to a sink of tokens.
use Rattle.std.specs.Prelude.{List}
use Rattle.json.specs.Token.{Token}

-- Whatever tokens the sink held, it now holds some that are so related to them.
pub record Writes {S : Type 0} (H : S → List Token → Type 0) (R : List Token → List Token → Type 0) (old new : S) : Type 0 where
  pub each : (a : List Token) → H old a → (b : List Token) × H new b × R a b
