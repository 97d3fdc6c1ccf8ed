-- Texts of strangers on one line, read in the order in which they are written.
use Rattle.std.specs.Prelude.{◌≡◌, ◌/◌, ◌%◌, ◌||◌, ◌++◌, ◌∷◌, [], ℕ, List, Bool, false, codes, chars, encode_utf8_all, if◌then◌else◌}
use Rattle.std.specs.List.{All, flat_map}
use Rattle.std.specs.Char.{is_control, digit_char}
use Rattle.std.specs.Int.{is_in_range}

-- the controls of C0 and C1 with DEL; LINE SEPARATOR, PARAGRAPH SEPARATOR and the embeddings and overrides of the bidirectional algorithm; its isolates
-- (Unicode Standard, sections 23.1 and 23.2; Unicode Standard Annex 9, section 2)
abbrev pub is_unsafe : ℕ → Bool
is_unsafe c = is_control c || (is_in_range 0x2028 0x202E c || is_in_range 0x2066 0x2069 c)

-- the escape of a character of the first plane, with four hexadecimal digits (RFC 8259, section 7)
abbrev pub escape : ℕ → List ℕ
escape c = codes "\\u" ++ digit_char (c / 4096 % 16) ∷ digit_char (c / 256 % 16) ∷ digit_char (c / 16 % 16) ∷ digit_char (c % 16) ∷ []

-- the characters by which a character is shown
abbrev pub shown_as : ℕ → List ℕ
shown_as c = if is_unsafe c then escape c else c ∷ []

-- a text as it is shown
unfoldable pub escaped : List ℕ → List ℕ
escaped text = encode_utf8_all (flat_map shown_as (chars text))

-- the text has no such character
abbrev pub IsOneLine : List ℕ → Type 0
IsOneLine text = All (λ c. is_unsafe c ≡ false) (chars text)

-- a line: such a text, and a newline
abbrev pub IsLine : List ℕ → Type 0
IsLine line = (shown : List ℕ) × IsOneLine shown × (line ≡ shown ++ 10 ∷ [])
