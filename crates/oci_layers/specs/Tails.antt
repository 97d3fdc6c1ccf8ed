-- What the paths of whiteouts say (image specification, "Whiteouts").
use Rattle.std.specs.Prelude.{◌≡◌, ℕ, List, [], ◌∷◌, drop, length, bytes_eq, Bool, ◌==◌, if◌then◌else◌, Option, Some, None, option_map, option_and_then, string_bytes}
use Rattle.std.specs.List.{list_any}
use Rattle.oci_rules.specs.Decided.{begins_with}
use Rattle.tar_folder.specs.Parts.{behind}
use Rattle.oci_layers.specs.Names.{mark, opaque_name}
use Rattle.oci_layers.specs.declared.tail.Tail.{Tail}

abbrev pub has_slash : List ℕ → Bool
has_slash path = list_any (λ b. b == 47) path

-- the bytes behind the last slash, or all
abbrev pub name_in : List ℕ → List ℕ
name_in [] = []
name_in (b ∷ bs) = if has_slash (b ∷ bs) then name_in bs else b ∷ bs

-- the bytes before the last slash, or none
abbrev pub folder_in : List ℕ → List ℕ
folder_in [] = []
folder_in (b ∷ bs) = if has_slash bs then b ∷ folder_in bs else []

-- what stands behind the mark of a whiteout
abbrev pub behind_mark : List ℕ → Option (List ℕ)
behind_mark name = if begins_with mark name then Some (drop 4 name) else None

-- the path that a whiteout deletes; an opaque one deletes no single name
abbrev pub deleted : List ℕ → List ℕ → List ℕ → Option (List ℕ)
deleted folder name rest = if bytes_eq name opaque_name then None else Some (behind folder rest)

abbrev pub hidden_by : List ℕ → Option (List ℕ)
hidden_by path = option_and_then (deleted (folder_in path) (name_in path)) (behind_mark (name_in path))

-- the folder of a whiteout
abbrev pub marked_folder : List ℕ → Option (List ℕ)
marked_folder path = option_map (λ rest. folder_in path) (behind_mark (name_in path))

-- the folder of what is no whiteout; the root is in none
abbrev pub folder_unless : Option (List ℕ) → List ℕ → Option (List ℕ)
folder_unless (Some rest) path = None
folder_unless None path = if length path == 0 then None else Some (folder_in path)

abbrev pub plain_folder : List ℕ → Option (List ℕ)
plain_folder path = folder_unless (behind_mark (name_in path)) path

-- what is known of a path, if there is one
pub record IsTailOf (t : Tail) (path : Option (List ℕ)) : Type 0 where
  pub hidden : option_map string_bytes t.hidden ≡ option_and_then hidden_by path
  pub marked : option_map string_bytes t.marked ≡ option_and_then marked_folder path
  pub plain : option_map string_bytes t.plain ≡ option_and_then plain_folder path
