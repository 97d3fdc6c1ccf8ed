-- The files of an archive that `docker save` wrote, by their paths.
use Rattle.std.specs.Prelude.{◌≡◌, ⊤, ℕ, List, map, length, codes, Bool, true, false, ◌&&◌, is_none, is_some, Option, Some, None, option_map}
use Rattle.tar.specs.Entries.{Member}
use Rattle.tar.specs.Places.{entry_at}
use Rattle.tar.specs.declared.index.Place.{Place}
use Rattle.tar_folder.specs.Folders.{place_of}
use Rattle.oci_content.specs.Content.{Tells}
use Rattle.oci_content.specs.declared.verdict.Verdict.TheVariants.{Same}
use Rattle.oci_layout.specs.Looks.{Contents}
use Rattle.oci_saved.specs.Links.{content_at}
use Rattle.oci_saved.specs.declared.files.Judged.{Judged}
use Rattle.oci_saved.specs.declared.files.Judged.TheVariants.{Missing, Unreadable, Content}

-- the archive has what `docker save` writes, and is no image layout
abbrev pub is_saved : {X : Type 0} → List (Member × X) → Bool
is_saved es = is_some (place_of es (codes "manifest.json")) && is_none (place_of es (codes "oci-layout"))

-- the files by path of the entries at these places, where the bytes are known
abbrev pub files_at : List Place → Option (List ℕ) → Contents
files_at places known = option_map (λ bytes. content_at (map (entry_at bytes) places)) known

-- of files that are known, where no read fails
abbrev pub OverFiles : Bool → Contents → ((List ℕ → Option (List ℕ)) → Type 0) → Type 0
OverFiles true (Some files) P = P files
OverFiles true None P = ⊤
OverFiles false files P = ⊤

-- what was found of bytes beside a digest
abbrev pub IsJudgedOf : Bool → List ℕ → List ℕ → Judged → Type 0
IsJudgedOf steady digest bytes Missing = ⊥
IsJudgedOf steady digest bytes (Unreadable why) = steady ≡ false
IsJudgedOf steady digest bytes (Content verdict) = Tells digest (length bytes) bytes verdict

-- what was found of the file at a path beside a digest
abbrev pub IsJudged : Bool → Contents → List ℕ → List ℕ → Judged → Type 0
IsJudged steady None path digest judged = ⊤
IsJudged steady (Some files) path digest Missing = files path ≡ None
IsJudged steady (Some files) path digest (Unreadable why) = steady ≡ false
IsJudged steady (Some files) path digest (Content verdict) = (bytes : List ℕ) × (files path ≡ Some bytes) × Tells digest (length bytes) bytes verdict

-- a file is there and has the digest
abbrev pub has_digest : Judged → Bool
has_digest (Content Same) = true
has_digest _ = false
