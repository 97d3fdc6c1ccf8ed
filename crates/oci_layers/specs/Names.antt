-- The names of entries (image specification, "Whiteouts" and "Opaque Whiteout").
use Rattle.std.specs.Prelude.{◌≡◌, ℕ, List, codes, Option, None, option_map}
use Rattle.std.specs.List.{filter, last_or}
use denote.Ref.{Bor}
use Rattle.tar_folder.specs.Paths.{is_name, parts_of, leads_out}
use Rattle.oci_layers.specs.declared.name.Name.{Name}

-- the last name of a path, if it has one
abbrev pub base_of : List ℕ → Option (List ℕ)
base_of path = last_or None (filter is_name (parts_of path))

-- what the names of whiteouts begin with
abbrev pub mark : List ℕ
mark = codes ".wh."

-- the name of an opaque whiteout
abbrev pub opaque_name : List ℕ
opaque_name = codes ".wh..wh..opq"

abbrev pub text_in : Option (Bor (List ℕ)) → Option (List ℕ)
text_in t = option_map (λ b. b.now) t

-- what is known of a path
pub record IsNameOf (n : Name) (path : List ℕ) : Type 0 where
  pub base : text_in n.base ≡ base_of path
  pub out : n.leads_out ≡ leads_out path
