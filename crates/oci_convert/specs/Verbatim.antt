-- What a process takes over from an image verbatim (image specification, "Conversion to OCI Runtime Configuration", "Verbatim Fields").
use Rattle.std.specs.Prelude.{ℕ, List, [], ◌∷◌, ◌++◌, Option, Some, None, unwrap_or, Bool, not, bytes_eq, filter}
use Rattle.std.specs.List.{list_any}
use Rattle.oci_base.specs.Classes.{until}

-- the arguments of the image, `Entrypoint ++ Cmd`; where there are none, those that were there
abbrev pub arguments : List (List ℕ) → Option (List (List ℕ)) → Option (List (List ℕ))
arguments [] before = before
arguments (program ∷ args) before = Some (program ∷ args)

-- the name of the variable that an entry of an environment is for: what comes before the first `=`
abbrev pub name_of : List ℕ → List ℕ
name_of entry = until 61 entry

-- whether an environment has an entry for the same variable
abbrev pub sets : List (List ℕ) → List ℕ → Bool
sets env entry = list_any (λ other. bytes_eq (name_of entry) (name_of other)) env

-- the entries that were there, without those for variables of the image, and then the entries of the image
abbrev pub environment : Option (List (List ℕ)) → Option (List (List ℕ)) → Option (List (List ℕ))
environment None before = before
environment (Some env) before = Some (filter (λ entry. not (sets env entry)) (unwrap_or before []) ++ env)
