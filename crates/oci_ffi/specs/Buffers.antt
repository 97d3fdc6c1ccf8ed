-- What is done with a buffer of the caller's, for a text.
use Rattle.std.specs.Prelude.{◌≡◌, ◌<◌, ◌++◌, ℕ, List, length, drop}

-- the buffer begins with the text and is unchanged behind it; the length of the text is returned
abbrev pub Fills : List ℕ → List ℕ → ℕ → List ℕ → Type 0
Fills old new len text = (new ≡ text ++ drop (length text) old) × (len ≡ length text)

-- the text is longer than the buffer, which is unchanged; the length of the text is returned
abbrev pub Overflows : List ℕ → List ℕ → ℕ → List ℕ → Type 0
Overflows old new len text = (new ≡ old) × (length old < length text) × (len ≡ length text)

-- there is no text, and the buffer is unchanged
abbrev pub Untouched : List ℕ → List ℕ → ℕ → Type 0
Untouched old new len = (new ≡ old) × (len ≡ 0)
