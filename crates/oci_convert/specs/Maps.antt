-- Annotations by their keys, in a map and in a table.
use Rattle.std.specs.Prelude.{ℕ, List, [], ◌∷◌, bytes_eq, Option, None, option_map, option_and_then, if◌then◌else◌, String, string_bytes, ◌≡◌}
use Rattle.std.specs.Option.{option_or}
use Rattle.std.specs.List.{join_with_byte}
use Rattle.std.specs.BTreeMap.{BTreeMap, get_by_text}
use Rattle.std.specs.declared.alloc.Global.{Global}

-- texts with commas between
abbrev pub joined : Option (List (List ℕ)) → Option (List ℕ)
joined texts = option_map (λ ts. join_with_byte 44 ts) texts

-- an annotation: its key, and its value where it has one
abbrev pub Annotation : Type 0
Annotation = List ℕ × Option (List ℕ)

-- the value of a key by an annotation, else by the others
abbrev pub value_of : List Annotation → List ℕ → Option (List ℕ)
value_of [] key = None
value_of (a ∷ others) key = option_or (if bytes_eq a.0 key then a.1 else None) (value_of others key)

-- the annotation of a key in a map
abbrev pub look : BTreeMap (String Global) (String Global) → List ℕ → Option (List ℕ)
look m key = option_map string_bytes (get_by_text m key)

-- the same, where there are annotations
abbrev pub look_in : Option (BTreeMap (String Global) (String Global)) → List ℕ → Option (List ℕ)
look_in annotations key = option_and_then (λ m. look m key) annotations

-- a key has this value where there is one, and each other key has what it had
abbrev pub Sets : List ℕ → Option (List ℕ) → (List ℕ → Option (List ℕ)) → (List ℕ → Option (List ℕ)) → Type 0
Sets key value before after = (q : List ℕ) → after q ≡ option_or (if bytes_eq key q then value else None) (before q)
