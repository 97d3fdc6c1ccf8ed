-- What is shown of an image.
use Rattle.std.specs.Prelude.{◌≡◌, ◌⊎◌, ◌≤◌, ◌++◌, ◌∷◌, [], ⊤, ℕ, List, Bool, Option, Some, codes}
use Rattle.std.specs.Io.KnownBytes.{Appends}
use Rattle.std.specs.Option.{option_copied}
use Rattle.oci_base.specs.Escaped.{escaped, IsLine}
use Rattle.serde_json.specs.Data.{Data, string, depth}
use Rattle.serde_json.specs.Find.{get}
use Rattle.serde_json.specs.Read.{read, max_depth}
use Rattle.oci_inspect.specs.Configured.{IsConfigFault, IsConfigOf}
use Rattle.oci_inspect.specs.Contents.{OnContent}
use Rattle.oci_inspect.specs.Found.{IsFoundIn, IsNotFoundIn}
use Rattle.oci_inspect.specs.declared.asked.Inspect.{Inspect}
use Rattle.oci_inspect.specs.declared.asked.Part.{Part}
use Rattle.oci_inspect.specs.declared.asked.Part.TheVariants.{Summary, Manifest, Config, Digest}
use Rattle.oci_inspect.specs.declared.asked.Style.{Style}
use Rattle.oci_inspect.specs.declared.asked.Style.TheVariants.{Text, Json}
use Rattle.oci_inspect.specs.declared.fault.Fault.{Fault}
use Rattle.oci_inspect.specs.declared.fault.Fault.TheVariants.{Unreadable}
use Rattle.oci_inspect.specs.declared.fault.Fault.TheVariants as fault
use Rattle.oci_inspect.specs.declared.fault.FindError.{FindError}
use Rattle.oci_inspect.specs.declared.fault.FindError.TheVariants.{NoIndex, Content}
use Rattle.oci_inspect.specs.declared.fault.FindError.TheVariants as error
use Rattle.oci_inspect.specs.declared.fault.InspectError.{InspectError}
use Rattle.oci_inspect.specs.declared.fault.InspectError.TheVariants.{NotFound, Unwritten}
use Rattle.oci_inspect.specs.declared.image.FoundImage.{FoundImage}

-- ---- what is written

-- the text consists of lines without a character that ends a line or moves a cursor
pub data AreLines : List ℕ → Type 0 where
  none : AreLines []
  more : (text line : List ℕ) → AreLines text → IsLine line → AreLines (text ++ line)

-- the bytes of the image's configuration were written
abbrev pub WritesConfig : (List ℕ → Option (List ℕ)) → FoundImage → Option (List ℕ) → Option (List ℕ) → Type 0
WritesConfig contents f old new = (config : List ℕ) × IsConfigOf contents f.bytes.items config × Appends old new config

-- the object has this digest in `digest`
abbrev pub SaysDigest : List ℕ → Data → Type 0
SaysDigest digest d = get (codes "digest") d ≡ Some (string digest)

-- a line without such a character, which is a text that is read as an object with the digest
pub record IsObjectLine (digest line : List ℕ) : Type 0 where
  pub object : Data
  pub says : SaysDigest digest object
  pub text : List ℕ
  pub reads : depth object ≤ max_depth → read text ≡ Some object
  pub shown : line ≡ escaped text ++ 10 ∷ []
  pub is_line : IsLine line

-- the summary of an image with this digest: lines for people, or an object for programs
abbrev pub IsSummary : Style → List ℕ → List ℕ → Type 0
IsSummary Text digest text = AreLines text
IsSummary Json digest text = IsObjectLine digest text

-- a part of an image was written: its bytes as they are, the digest and a newline, or a summary
abbrev pub IsWritten : (List ℕ → Option (List ℕ)) → Part → Style → FoundImage → Option (List ℕ) → Option (List ℕ) → Type 0
IsWritten contents Manifest style f old new = Appends old new f.bytes.items
IsWritten contents Config style f old new = WritesConfig contents f old new
IsWritten contents Digest style f old new = Appends old new (f.descriptor.digest ++ 10 ∷ [])
IsWritten contents Summary style f old new = (text : List ℕ) × IsSummary style f.descriptor.digest text × Appends old new text

-- the image was found, and the part that is asked for was written
pub record IsShown (asked : Inspect) (tops contents : List ℕ → Option (List ℕ)) (old new : Option (List ℕ)) : Type 0 where
  pub image : FoundImage
  pub found : IsFoundIn (option_copied asked.wanted.name) (option_copied asked.wanted.platform) tops contents image
  pub written : IsWritten contents asked.part asked.style image old new

-- ---- why nothing is shown

-- a part of an image was not written: its configuration is not to be had, or a write failed
abbrev pub IsUnwritten : Bool → (List ℕ → Option (List ℕ)) → FoundImage → InspectError → Type 0
IsUnwritten steady contents f (NotFound e) = OnContent (IsConfigFault steady contents f.descriptor f.bytes.items) e
IsUnwritten steady contents f (Unwritten why) = ⊤

-- the image is not found
abbrev pub IsUnfound : Inspect → Bool → (List ℕ → Option (List ℕ)) → (List ℕ → Option (List ℕ)) → InspectError → Type 0
IsUnfound asked steady tops contents (NotFound e) =
    IsNotFoundIn (option_copied asked.wanted.name) (option_copied asked.wanted.platform) steady tops contents e
IsUnfound asked steady tops contents (Unwritten why) = ⊥

-- the image is not found, or a part of it was not written
abbrev pub IsUnshown : Inspect → Bool → (List ℕ → Option (List ℕ)) → (List ℕ → Option (List ℕ)) → InspectError → Type 0
IsUnshown asked steady tops contents e = IsUnfound asked steady tops contents e
    ⊎ ((f : FoundImage) × IsFoundIn (option_copied asked.wanted.name) (option_copied asked.wanted.platform) tops contents f × IsUnwritten steady contents f e)

-- ---- the exit status of an error: 3 where a file is not read, and 1 where what was read decides

abbrev pub fault_status : Fault → ℕ
fault_status (Unreadable why) = 3
fault_status fault.Memory = 3
fault_status _ = 1

abbrev pub find_status : FindError → ℕ
find_status (NoIndex fault.Missing) = 3
find_status (NoIndex found) = fault_status found
find_status (Content digest found) = fault_status found
find_status error.Memory = 3
find_status _ = 1

abbrev pub status_of : InspectError → ℕ
status_of (NotFound e) = find_status e
status_of (Unwritten why) = 3

-- nothing is shown for a reason that what was read decides
abbrev pub IsRefused : Inspect → Bool → (List ℕ → Option (List ℕ)) → (List ℕ → Option (List ℕ)) → Type 0
IsRefused asked steady tops contents = (e : InspectError) × (status_of e ≡ 1) × IsUnshown asked steady tops contents e
