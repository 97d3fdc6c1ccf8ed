-- Texts and lists of texts that may be absent.
use Rattle.std.specs.Prelude.{ℕ, List, [], ◌∷◌, map, string_bytes, Option, Some, None, String, Vec, option_map, unwrap_or}
use Rattle.std.specs.declared.alloc.Global.{Global}

-- the texts of a list, where there is one
abbrev pub list_of : Option (Vec (String Global) Global) → Option (List (List ℕ))
list_of list = option_map (λ ts. map string_bytes ts.items) list

-- the same, and none where there is no list
abbrev pub texts_of : Option (Vec (String Global) Global) → List (List ℕ)
texts_of list = unwrap_or (list_of list) []

-- a text, where there is one
abbrev pub text_of : Option (String Global) → Option (List ℕ)
text_of text = option_map string_bytes text

-- a text that is not empty
abbrev pub unless_empty : Option (List ℕ) → Option (List ℕ)
unless_empty None = None
unless_empty (Some []) = None
unless_empty (Some (b ∷ text)) = Some (b ∷ text)

-- a text, where there is one and it is not empty
abbrev pub said : Option (String Global) → Option (List ℕ)
said text = unless_empty (text_of text)
