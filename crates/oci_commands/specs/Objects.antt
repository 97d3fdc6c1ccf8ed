-- Objects of strings, a line each, as JSON Lines has them.
use Rattle.std.specs.Prelude.{ℕ, List, [], ◌∷◌, ◌++◌, Option, Some, None}
use Rattle.json.specs.Token.{Token, key, string}
use Rattle.json.specs.Print.{print}
use Rattle.oci_base.specs.Escaped.{escaped}

-- a member that is a string
abbrev pub text_member : List ℕ → List ℕ → List Token
text_member name value = key name ∷ (string value ∷ [])

-- the same, if it has a value
abbrev pub text_member_if : List ℕ → Option (List ℕ) → List Token
text_member_if name None = []
text_member_if name (Some value) = text_member name value

-- the JSON text of the tokens on a line: with no space, and no character that ends a line or moves a cursor
abbrev pub line_of : List Token → List ℕ
line_of tokens = escaped (print tokens) ++ 10 ∷ []
