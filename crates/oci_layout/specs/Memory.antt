-- What is kept in memory.
use Rattle.std.specs.Prelude.{ℕ, List, [], ◌∷◌, bytes_eq, Option, Some, None, if◌then◌else◌}
use Rattle.oci_layout.specs.declared.memory.Kept.{Kept}

-- the first content that is kept under a name
abbrev pub content_of : List Kept → List ℕ → Option (List ℕ)
content_of [] name = None
content_of (k ∷ kept) name = if bytes_eq k.name.now name then Some k.bytes.now else content_of kept name
