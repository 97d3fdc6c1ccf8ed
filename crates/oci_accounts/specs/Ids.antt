-- IDs of users and groups, as they are written.
use Rattle.std.specs.Prelude.{ℕ, ◌<◌, List, ◌≡◌}
use Rattle.std.specs.Str.Parse.{IsNumeral, digits_value}

-- one or more decimal digits, and nothing else
abbrev pub IsDigits : List ℕ → Type 0
IsDigits text = IsNumeral 10 text

-- the number that is no ID: to setresuid(2) and chown(2) it says "leave it as it is"
abbrev pub no_id : ℕ
no_id = 4294967295

-- digits for a number that can be an ID
pub record IsId (text : List ℕ) (id : ℕ) : Type 0 where
  pub is_digits : IsDigits text
  pub number : digits_value 10 text ≡ id
  pub below : id < no_id
