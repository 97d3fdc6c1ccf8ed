-- Entries of environments (POSIX, XBD 8.1; image specification, "Image Configuration", `Env`), annotation keys, and texts without a byte.
use Rattle.std.specs.Prelude.{ℕ, List}
use Rattle.oci_base.specs.Classes.{dot, slash, IsIn, IsSomeOf, IsMark, IsJoined, is_word}
use Rattle.oci_grammars.specs.Classes.{hash, is_name_start, is_label_byte, is_not_equals, is_not_nul, is_not_slash, is_not_line_feed}
use Rattle.oci_grammars.specs.Parts.{IsAny, IsExtended, IsHeaded, IsPair}

-- a name without "=", "=", and a value
abbrev pub IsEnvironmentEntry : List ℕ → Type 0
IsEnvironmentEntry text = IsPair 61 (IsSomeOf is_not_equals) IsAny text

-- the same with a name of letters, digits and "_" that does not begin with a digit (XBD 3.235, "Name")
abbrev pub IsPortableEntry : List ℕ → Type 0
IsPortableEntry text = IsPair 61 (IsHeaded is_name_start is_word) IsAny text

-- a part of a key: letters, digits, "-" and "_"
abbrev pub IsLabel : List ℕ → Type 0
IsLabel text = IsSomeOf is_label_byte text

-- two parts or more, joined by dots
abbrev pub IsDottedLabels : List ℕ → Type 0
IsDottedLabels text = IsPair dot IsLabel (IsJoined (IsMark dot) IsLabel) text

-- these alone (image specification, "Annotations", "Rules": `com.example.myKey`), or any name behind "/" or "#", which is the domain's own matter
-- (`dev.cosignproject.cosign/signature`)
abbrev pub IsReverseDomain : List ℕ → Type 0
IsReverseDomain text = IsExtended slash (IsExtended hash IsDottedLabels (IsIn is_not_slash)) IsAny text

-- no byte 0
abbrev pub IsNoNul : List ℕ → Type 0
IsNoNul text = IsIn is_not_nul text

-- one line (runtime specification, "Linux", `intelRdt`)
abbrev pub IsOneLine : List ℕ → Type 0
IsOneLine text = IsIn is_not_line_feed text
