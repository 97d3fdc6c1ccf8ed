-- Media types (RFC 6838, section 4.2).
use Rattle.std.specs.Prelude.{ℕ, ◌≤◌, List, length}
use Rattle.std.specs.Char.{is_ascii_alphanumeric}
use Rattle.oci_base.specs.Classes.{slash}
use Rattle.oci_grammars.specs.Classes.{is_restricted_byte}
use Rattle.oci_grammars.specs.Parts.{IsPair, IsHeaded}

-- restricted-name: a letter or a digit, and at most 126 restricted-name-chars
abbrev pub IsRestrictedName : List ℕ → Type 0
IsRestrictedName name = IsHeaded is_ascii_alphanumeric is_restricted_byte name × (length name ≤ 127)

-- type-name "/" subtype-name
abbrev pub IsMediaType : List ℕ → Type 0
IsMediaType text = IsPair slash IsRestrictedName IsRestrictedName text
