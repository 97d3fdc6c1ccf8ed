-- The image layout that an archive holds (image specification, "Image Layout"). What an entry has is of any type, as in the folder.
use Rattle.std.specs.Prelude.{◌≡◌, ℕ, List, map, codes, Bool, Option, Some, None, option_map, if◌then◌else◌}
use Rattle.std.specs.Bool.{nat_eq}
use Rattle.std.specs.List.{Contains, starts_with}
use Rattle.oci_base.specs.Classes.{until, after, colon}
use Rattle.oci_layout.specs.Looks.{Contents}
use Rattle.oci_layout.specs.Paths.{path_of}
use Rattle.tar.specs.Entries.{Member}
use Rattle.tar.specs.Places.{entry_at}
use Rattle.tar.specs.declared.index.Place.{Place}
use Rattle.tar_folder.specs.Folders.{file_at}
use Rattle.tar_folder.specs.Paths.{entry_path, is_directory}

-- the path of a content, by its digest ("Blobs")
abbrev pub blob_path_of : List ℕ → List ℕ
blob_path_of digest = path_of (until colon digest) (after colon digest)

-- the contents by digest
abbrev pub contents_in : {X : Type 0} → List (Member × X) → List ℕ → Option X
contents_in es digest = file_at es (blob_path_of digest)

-- the files beside `blobs`
abbrev pub tops_in : {X : Type 0} → List (Member × X) → List ℕ → Option X
tops_in es name = file_at es name

abbrev pub is_below_blobs : List ℕ → Bool
is_below_blobs path = starts_with nat_eq path (codes "blobs/")

abbrev pub kept_below : Option (List ℕ) → Option (List ℕ)
kept_below None = None
kept_below (Some path) = if is_below_blobs path then Some path else None

-- where an entry is put, if that is below `blobs` and it is no directory
abbrev pub name_of : Member → Option (List ℕ)
name_of m = if is_directory m.kind then None else kept_below (entry_path m)

-- what lies below `blobs`
abbrev pub names_in : {X : Type 0} → List (Member × X) → List ℕ → Type 0
names_in {X} es path = (e : Member × X) × Contains es e × (name_of e.0 ≡ Some path)

-- what is denoted by the entries at these places, where the bytes are known
abbrev pub contents_at : List Place → Option (List ℕ) → Contents
contents_at places known = option_map (λ bytes. contents_in (map (entry_at bytes) places)) known

abbrev pub tops_at : List Place → Option (List ℕ) → Contents
tops_at places known = option_map (λ bytes. tops_in (map (entry_at bytes) places)) known

-- the files of a folder, by their paths, are those that an archive denotes
abbrev pub IsUnpacked : (List ℕ → Option (List ℕ)) → List (Member × List ℕ) → Type 0
IsUnpacked files es = (path : List ℕ) → files path ≡ file_at es path

-- the contents by digest that lie in a folder
abbrev pub blobs_of : (List ℕ → Option (List ℕ)) → List ℕ → Option (List ℕ)
blobs_of files digest = files (blob_path_of digest)
