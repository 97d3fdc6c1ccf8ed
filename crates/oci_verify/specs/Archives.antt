-- Whether an image layout in a tar archive is right (image specification, "Image Layout"; POSIX, pax, "ustar Interchange Format").
use Rattle.std.specs.Prelude.{◌≡◌, ⊤, ℕ, List, Bool, true, false, Option, Some, None}
use Rattle.deflate.specs.Bits.{AreBelow}
use Rattle.tar.specs.Archives.{Holds}
use Rattle.tar.specs.Entries.{Member, nothing_said}
use Rattle.tar.specs.declared.index.Place.{Place}
use Rattle.tar_folder.specs.Marks.{extents}
use Rattle.tar_folder.specs.Plain.{IsPlainArchive}
use Rattle.oci_archive.specs.Layouts.{contents_in, names_in, tops_in}
use Rattle.oci_verify.specs.Layouts.{IsRightLayout}
use Rattle.oci_verify.specs.Passing.{Books}
use Rattle.oci_verify.specs.declared.options.Options.{Options}

-- the bytes are an archive that is one folder to all that unpack it
pub record IsSoundArchive (bytes : List ℕ) : Type 0 where
  pub entries : List (Member × List ℕ)
  pub holds : Holds nothing_said bytes entries
  pub plain : IsPlainArchive entries

-- the same, and the layout in that folder is right
pub record IsRightArchive (books : Books) (options : Options) (bytes : List ℕ) : Type 0 where
  pub entries : List (Member × List ℕ)
  pub holds : Holds nothing_said bytes entries
  pub plain : IsPlainArchive entries
  pub right : IsRightLayout books options (names_in entries) (tops_in entries) (contents_in entries)

-- of a source and a reader of the same bytes, which are known, each below 256, where no read of the source fails
abbrev pub OverBytes : Bool → Option (List ℕ) → Option (List ℕ) → (List ℕ → Type 0) → Type 0
OverBytes true (Some bytes) (Some read) P = bytes ≡ read → AreBelow 256 bytes → P bytes
OverBytes true (Some bytes) None P = ⊤
OverBytes true None read P = ⊤
OverBytes false source read P = ⊤

-- ---- by the places of its entries

-- the entries are one folder to all that unpack them, and these files of it are a right layout
abbrev pub IsRightPlaced : Books → Options → List Place → (List ℕ → Option (List ℕ)) → (List ℕ → Option (List ℕ)) → Type 0
IsRightPlaced books options places tops contents = IsPlainArchive (extents places) × IsRightLayout books options (names_in (extents places)) tops contents
