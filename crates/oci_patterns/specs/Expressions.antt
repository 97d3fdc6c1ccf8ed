-- What a regular expression asks of a text: what the grammar of the crate `regex` reads in it has to match a part of the text.
use Rattle.std.specs.Prelude.{ℕ, Bool, false, is_some, List, Option, Some, None, nat_le, if◌then◌else◌, IsSome, IsSomeAnd, IsCharBoundary, ⊤}
use Rattle.std.specs.Str.{chars}
use Rattle.regex_syntax.specs.Brackets.{Nested}
use Rattle.regex_syntax.specs.Grammar.{Names, read}
use Rattle.regex.specs.Patterns.{Re, Matches, find_str, default_config}
use Rattle.regex.specs.declared.error.Error.{Error}
use Rattle.regex.specs.declared.error.Error.TheVariants.{Syntax}

-- what was read, if it is nested no deeper than this
abbrev pub within : ℕ → Option (Nested Re × Names) → Option Re
within most None = None
within most (Some (re, names)) = if nat_le re.depth most then Some re.value else None

-- what the text stands for, under the default options
abbrev pub expression_of : List ℕ → Option Re
expression_of pattern = within default_config.nest_limit (read default_config (chars pattern))

abbrev pub IsExpression : List ℕ → Type 0
IsExpression pattern = IsSome (expression_of pattern)

-- a part of the text, from between two characters on, matches
abbrev pub HasPart : List ℕ → Re → Type 0
HasPart t re = (i j : ℕ) × IsCharBoundary t i × Matches t re i j

abbrev pub HasMatch : List ℕ → List ℕ → Type 0
HasMatch pattern t = IsSomeAnd (expression_of pattern) (HasPart t)

-- the same, as a search decides it
abbrev pub finds : Option Re → List ℕ → Bool
finds None t = false
finds (Some re) t = is_some (find_str re t 0)

abbrev pub has_match : List ℕ → List ℕ → Bool
has_match pattern t = finds (expression_of pattern) t

-- the error says that a text is no expression
abbrev pub IsSyntax : Error → Type 0
IsSyntax (Syntax e) = ⊤
IsSyntax _ = ⊥
