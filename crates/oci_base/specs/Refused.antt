-- What kind of refusal an error is.
use Rattle.std.specs.Prelude.{◌≡◌, ◌⊎◌, ℕ, List, string_bytes, Option, Some, None, ⊤}
use Rattle.oci_base.specs.declared.error.OciSpecError.{OciSpecError}
use Rattle.oci_base.specs.declared.error.OciSpecError.TheVariants.{Other, Io, SerDe, Memory}
use Rattle.oci_base.specs.declared.error.SerDeError.{SerDeError}
use Rattle.oci_base.specs.declared.error.SerDeError.TheVariants.{Json, Schema}

abbrev pub IsSchemaError : SerDeError → Type 0
IsSchemaError (Json e) = ⊥
IsSchemaError (Schema f) = ⊤

abbrev pub IsJsonError : SerDeError → Type 0
IsJsonError (Json e) = ⊤
IsJsonError (Schema f) = ⊥

-- the schema does not allow it
abbrev pub IsSchema : OciSpecError → Type 0
IsSchema (SerDe e) = IsSchemaError e
IsSchema _ = ⊥

-- the text is no JSON
abbrev pub IsJson : OciSpecError → Type 0
IsJson (SerDe e) = IsJsonError e
IsJson _ = ⊥

-- a read, a write or a flush failed
abbrev pub IsIo : OciSpecError → Type 0
IsIo (Io e) = ⊤
IsIo _ = ⊥

-- memory was wanted
abbrev pub IsMemory : OciSpecError → Type 0
IsMemory Memory = ⊤
IsMemory _ = ⊥

-- the text of a grammar was refused
abbrev pub IsOther : OciSpecError → Type 0
IsOther (Other t) = ⊤
IsOther _ = ⊥

-- of a value that is read or written
abbrev pub IsMemoryOrSchema : OciSpecError → Type 0
IsMemoryOrSchema (SerDe e) = IsSchemaError e
IsMemoryOrSchema Memory = ⊤
IsMemoryOrSchema _ = ⊥

-- of bytes that are read
abbrev pub IsMemoryOrSerDe : OciSpecError → Type 0
IsMemoryOrSerDe (SerDe e) = ⊤
IsMemoryOrSerDe Memory = ⊤
IsMemoryOrSerDe _ = ⊥

-- of a document that is read from a reader
abbrev pub IsMemorySerDeOrIo : OciSpecError → Type 0
IsMemorySerDeOrIo (Io e) = ⊤
IsMemorySerDeOrIo (SerDe e) = ⊤
IsMemorySerDeOrIo Memory = ⊤
IsMemorySerDeOrIo _ = ⊥

-- of a document that is written to a writer
abbrev pub IsMemorySchemaOrIo : OciSpecError → Type 0
IsMemorySchemaOrIo (Io e) = ⊤
IsMemorySchemaOrIo (SerDe e) = IsSchemaError e
IsMemorySchemaOrIo Memory = ⊤
IsMemorySchemaOrIo _ = ⊥

-- of bytes that are read or written as they are
abbrev pub IsMemoryOrIo : OciSpecError → Type 0
IsMemoryOrIo (Io e) = ⊤
IsMemoryOrIo Memory = ⊤
IsMemoryOrIo _ = ⊥

-- the error is this text
abbrev pub Says : List ℕ → OciSpecError → Type 0
Says text (Other t) = string_bytes t ≡ text
Says text _ = ⊥

-- the error says why, where there is a reason; else memory was wanted, as it may be in place of that text
abbrev pub Refuses : Option (List ℕ) → OciSpecError → Type 0
Refuses None error = error ≡ Memory
Refuses (Some text) error = Says text error ⊎ (error ≡ Memory)
