-- What is asked of an entry of a layer, beside those before it (image specification, "Image Layer Filesystem Changeset").
use Rattle.std.specs.Prelude.{◌≡◌, ◌≢◌, ⊤, ℕ, List, ◌∷◌, ◌++◌, codes, take, slice_get, false, if◌then◌else◌, Option, Some, None, IfSome, IsSome, option_and_then}
use Rattle.std.specs.List.{Contains}
use Rattle.oci_rules.specs.Tests.{BeginsWith}
use Rattle.tar.specs.Entries.{Member}
use Rattle.tar.specs.declared.entry.Kind.{Kind as EntryKind}
use Rattle.tar.specs.declared.entry.Kind.TheVariants as kind
use Rattle.tar_folder.specs.Paths.{leads_out, normal, entry_path, is_directory}
use Rattle.oci_layers.specs.Names.{base_of, mark, opaque_name}
use Rattle.oci_layers.specs.Tails.{hidden_by, marked_folder, plain_folder}
use Rattle.oci_layers.specs.declared.broken.LayerFinding.{LayerFinding}
use Rattle.oci_layers.specs.declared.rule.LayerRule.{LayerRule}
use Rattle.oci_layers.specs.declared.rule.LayerRule.TheVariants.{Kind, Sparse, PathOnce, PathUnderLink, PathInside, LinkInside, HardLinkInside, HardLinkKind, WhiteoutEmpty, WhiteoutName, WhiteoutReserved, WhiteoutFirst, WhiteoutSibling, Opaque}

-- a kind of "File Types"
abbrev pub IsKnownKind : EntryKind → Type 0
IsKnownKind (kind.Other flag) = ⊥
IsKnownKind _ = ⊤

-- the path of a directory
abbrev pub directory_path : Member → Option (List ℕ)
directory_path m = if is_directory m.kind then entry_path m else None

-- the path of what is no directory: a folder for what is below it only through a symbolic link, if at all
abbrev pub other_path : Member → Option (List ℕ)
other_path m = if is_directory m.kind then None else entry_path m

-- the path that a whiteout deletes
abbrev pub hidden_path : Member → Option (List ℕ)
hidden_path m = option_and_then hidden_by (entry_path m)

-- the folder of a whiteout
abbrev pub whiteout_folder : Member → Option (List ℕ)
whiteout_folder m = option_and_then marked_folder (entry_path m)

-- the folder of what is no whiteout
abbrev pub sibling_folder : Member → Option (List ℕ)
sibling_folder m = option_and_then plain_folder (entry_path m)

-- the path of a folder above a path
abbrev pub IsAbove : List ℕ → List ℕ → Type 0
IsAbove folder path = (rest : List ℕ) × (path ≡ folder ++ 47 ∷ rest)

-- one of the entries has this path
abbrev pub IsAmong : (Member → Option (List ℕ)) → List Member → List ℕ → Type 0
IsAmong path_of before path = (d : Member) × Contains before d × (path_of d ≡ Some path)

-- an entry keeps the rule, beside those before it
abbrev pub Keeps : LayerRule → List Member → Member → Type 0
Keeps Kind before m = IsKnownKind m.kind
Keeps Sparse before m = (m.sparse ≡ false) × (m.kind ≢ kind.Sparse)
Keeps PathOnce before m = IfSome (entry_path m) (λ path. ¬ IsAmong entry_path before path)
Keeps PathUnderLink before m = IfSome (entry_path m) (λ path. (folder : List ℕ) → IsAbove folder path → ¬ IsAmong other_path before folder)
Keeps PathInside before m = (leads_out m.name ≡ false) × (base_of m.name ≡ None → m.kind ≡ kind.Directory)
Keeps LinkInside before m = m.kind ≡ kind.HardLink → (leads_out m.link ≡ false) × IsSome (base_of m.link)
Keeps HardLinkInside before m = m.kind ≡ kind.HardLink → IfSome (normal m.link) (IsAmong entry_path before)
Keeps HardLinkKind before m = m.kind ≡ kind.HardLink → IfSome (normal m.link) (λ path. ¬ IsAmong directory_path before path)
Keeps WhiteoutEmpty before m = IfSome (base_of m.name) (λ base. BeginsWith mark base → (m.kind ≡ kind.File) × (m.size ≡ 0))
Keeps WhiteoutName before m = IfSome (base_of m.name) (λ base. (base ≢ mark) × ((base ≢ mark ++ codes ".") × (base ≢ mark ++ codes "..")))
Keeps WhiteoutReserved before m = IfSome (base_of m.name) (λ base. BeginsWith (mark ++ mark) base → base ≡ opaque_name)
Keeps WhiteoutFirst before m = IfSome (whiteout_folder m) (λ folder. ¬ IsAmong sibling_folder before folder)
Keeps WhiteoutSibling before m = IfSome (hidden_path m) (λ path. ¬ IsAmong entry_path before path) × IfSome (entry_path m) (λ path. ¬ IsAmong hidden_path before path)
Keeps Opaque before m = IfSome (base_of m.name) (λ base. base ≢ opaque_name)

-- the entry at this place breaks the rule
abbrev pub IsBroken : List Member → LayerFinding → Type 0
IsBroken es x = (m : Member) × (slice_get es x.place ≡ Some m) × (¬ Keeps x.rule (take x.place es) m)
