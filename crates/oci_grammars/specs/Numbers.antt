-- Numbers in decimal digits.
use Rattle.std.specs.Prelude.{ℕ, ◌+◌, ◌-◌, ◌*◌, ◌≤◌, List, ◌∷◌, ◌++◌, codes, ◌⊎◌, ◌≡◌}
use Rattle.std.specs.Char.{is_ascii_digit}
use Rattle.std.specs.List.{fold}
use Rattle.oci_base.specs.Classes.{dash, IsSomeOf}
use Rattle.oci_grammars.specs.Classes.{is_positive}
use Rattle.oci_grammars.specs.Parts.{IsCounted, IsHeaded}

-- the number that digits write, most significant first
abbrev pub number_of : List ℕ → ℕ
number_of digits = fold (λ n b. n * 10 + (b - 48)) 0 digits

-- digits, for a number from low to high
abbrev pub IsNumber : ℕ → ℕ → List ℕ → Type 0
IsNumber low high text = IsSomeOf is_ascii_digit text × (low ≤ number_of text) × (number_of text ≤ high)

-- two such numbers with a dash between, the second no smaller than the first
pub record IsRange (low high : ℕ) (text : List ℕ) : Type 0 where
  pub first : List ℕ
  pub last : List ℕ
  pub spelled : text ≡ first ++ dash ∷ last
  pub is_first : IsNumber low high first
  pub is_last : IsNumber low high last
  pub ascending : number_of first ≤ number_of last

-- a number or a range
abbrev pub IsNumberOrRange : ℕ → ℕ → List ℕ → Type 0
IsNumberOrRange low high text = IsNumber low high text ⊎ IsRange low high text

-- this many digits, for a number from low to high
abbrev pub IsField : ℕ → ℕ → ℕ → List ℕ → Type 0
IsField count low high text = IsCounted is_ascii_digit count text × (low ≤ number_of text) × (number_of text ≤ high)

-- digits without a zero in front
abbrev pub IsPlainNumber : List ℕ → Type 0
IsPlainNumber text = IsHeaded is_positive is_ascii_digit text

-- the same, or 0
abbrev pub IsNumeric : List ℕ → Type 0
IsNumeric text = (text ≡ codes "0") ⊎ IsPlainNumber text
