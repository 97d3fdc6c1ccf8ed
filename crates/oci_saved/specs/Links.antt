-- Where symbolic links in archives lead (POSIX, "Pathname Resolution"), by one step and within the folder in which the archive is unpacked.
use Rattle.std.specs.Prelude.{◌≡◌, ℕ, ◌-◌, List, [], ◌∷◌, ◌++◌, length, take, codes, slice_get, Bool, true, false, ◌==◌, ◌&&◌, not, if◌then◌else◌, Option, Some, None, option_map, option_and_then}
use Rattle.std.specs.List.{fold}
use Rattle.std.specs.Option.{option_or}
use Rattle.std.specs.Str.{is_utf8}
use Rattle.tar.specs.Entries.{Member}
use Rattle.tar.specs.declared.entry.Kind.{Kind}
use Rattle.tar.specs.declared.entry.Kind.TheVariants.{SymbolicLink}
use Rattle.tar_folder.specs.Folders.{place_of, file_at}
use Rattle.tar_folder.specs.Parts.{behind}
use Rattle.tar_folder.specs.Paths.{parts_of, is_name, is_above, is_absolute}

-- the names without the last, if there is one
abbrev pub all_but_last : List (List ℕ) → Option (List (List ℕ))
all_but_last names = if length names == 0 then None else Some (take (length names - 1) names)

-- the names of a path after one more part: `..` takes away the last, and there is no path above the folder
abbrev pub after_part : Option (List (List ℕ)) → List ℕ → Option (List (List ℕ))
after_part None part = None
after_part (Some names) part = if is_above part then all_but_last names else Some (if is_name part then names ++ part ∷ [] else names)

-- the names of a path from the folder, without `..`
abbrev pub names_along : List ℕ → Option (List (List ℕ))
names_along path = fold after_part (Some []) (parts_of path)

-- the path with these names
abbrev pub path_by : List (List ℕ) → List ℕ
path_by names = fold behind [] names

-- where a link at a path leads: from the folder that the link is in along its target. Nowhere if that is out of the folder, or not UTF-8
abbrev pub target_of : List ℕ → List ℕ → Option (List ℕ)
target_of path link = if is_utf8 link && not (is_absolute link) then option_map path_by (names_along (path ++ (codes "/../" ++ link))) else None

abbrev pub is_symbolic_link : Kind → Bool
is_symbolic_link SymbolicLink = true
is_symbolic_link _ = false

-- the one entry at a path
abbrev pub member_at : {X : Type 0} → List (Member × X) → List ℕ → Option Member
member_at es path = option_map (λ e. e.0) (option_and_then (slice_get es) (place_of es path))

-- what the file has to which an entry at a path is a symbolic link
abbrev pub of_link : {X : Type 0} → List (Member × X) → List ℕ → Member → Option X
of_link es path m = if is_symbolic_link m.kind then option_and_then (file_at es) (target_of path m.link) else None

abbrev pub linked_at : {X : Type 0} → List (Member × X) → List ℕ → Option X
linked_at es path = option_and_then (of_link es path) (member_at es path)

-- what the file at a path has, or the file to which the symbolic link there leads
abbrev pub content_at : {X : Type 0} → List (Member × X) → List ℕ → Option X
content_at es path = option_or (file_at es path) (linked_at es path)

-- a part was taken to these names, or there are none after it
abbrev pub IsTaken : Bool → Option (List (List ℕ)) → List (List ℕ) → Type 0
IsTaken true after names = after ≡ Some names
IsTaken false after names = after ≡ None
