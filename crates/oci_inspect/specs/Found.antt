-- Which image of an image layout is meant by a name and a platform (image specification, "Image Layout", "index.json file", and "Image Index").
use Rattle.std.specs.Prelude.{◌≡◌, ◌⊎◌, ◌<◌, ◌≤◌, ◌+◌, ◌||◌, ⊤, ℕ, zero, List, [], ◌∷◌, Bool, true, false, map, length, Option, Some, None, is_none, IfSome, codes, string_bytes}
use Rattle.oci_base.specs.Names.{name_text}
use Rattle.oci_text.specs.MediaType.{media_type_name}
use Rattle.oci_descriptor.specs.Descriptor.{descriptor_plain}
use Rattle.oci_descriptor.specs.declared.descriptor.Descriptor.{Descriptor}
use Rattle.oci_descriptor.specs.declared.platform.Platform.{Platform}
use Rattle.oci_image.specs.ImageIndex.{image_index_plain}
use Rattle.oci_image.specs.declared.image_index.ImageIndex.{ImageIndex}
use Rattle.oci_json.specs.Engines.{MeansBytes}
use Rattle.oci_layout.specs.Kinds.{kind_of}
use Rattle.oci_layout.specs.Looks.{Contents}
use Rattle.oci_layout.specs.Sound.{IsLarger}
use Rattle.oci_layout.specs.declared.kind.Kind.{Kind}
use Rattle.oci_layout.specs.declared.kind.Kind.TheVariants.{Index, DockerList, Manifest, DockerManifest}
use Rattle.oci_select.specs.Chosen.{Chooses, NoneRuns}
use Rattle.oci_shapes.specs.ImageIndex.{image_index}
use Rattle.oci_inspect.specs.Configured.{HasPlatform, IsConfigFault}
use Rattle.oci_inspect.specs.Contents.{document_limit, IsContent, IsDocumentOf, IsInvalid, IsNoContent, IsUnread}
use Rattle.oci_inspect.specs.Named.{named}
use Rattle.oci_inspect.specs.Platforms.{Runs}
use Rattle.oci_inspect.specs.declared.fault.Fault.{Fault}
use Rattle.oci_inspect.specs.declared.fault.Fault.TheVariants as fault
use Rattle.oci_inspect.specs.declared.fault.FindError.{FindError}
use Rattle.oci_inspect.specs.declared.fault.FindError.TheVariants.{NoIndex, NoName, Several, NoPlatform, Content, TooDeep, Memory}
use Rattle.oci_inspect.specs.declared.image.FoundImage.{FoundImage}

-- ---- kinds of manifests, by their media types

abbrev pub is_index_kind : Kind → Bool
is_index_kind Index = true
is_index_kind DockerList = true
is_index_kind _ = false

abbrev pub is_image_kind : Kind → Bool
is_image_kind Manifest = true
is_image_kind DockerManifest = true
is_image_kind _ = false

abbrev pub kind_of_descriptor : Descriptor → Kind
kind_of_descriptor d = kind_of (name_text (media_type_name d.media_type))

abbrev pub is_index : Descriptor → Bool
is_index d = is_index_kind (kind_of_descriptor d)

abbrev pub is_image : Descriptor → Bool
is_image d = is_image_kind (kind_of_descriptor d)

-- ---- the candidates, and which of them is meant

-- a lone manifest of `index.json` that is an index, or states no platform: it is meant whatever platform is wanted, which is looked for below
abbrev pub is_lone : ℕ → List Descriptor → Bool
is_lone zero (d ∷ []) = is_index d || is_none d.platform
is_lone depth candidates = false

-- without a platform the only candidate; with one the one that is chosen for it, unless there is a lone manifest
abbrev pub IsMeant : Option Platform → ℕ → List Descriptor → Descriptor → Type 0
IsMeant None depth candidates d = candidates ≡ d ∷ []
IsMeant (Some wanted) depth candidates d =
    ((is_lone depth candidates ≡ true) × (candidates ≡ d ∷ [])) ⊎ ((is_lone depth candidates ≡ false) × Chooses candidates wanted d)

-- the candidates that are reached from these, by the indexes that are meant; the number is how many indexes they lie below
pub data Reaches (contents : List ℕ → Option (List ℕ)) (wanted : Option Platform) : ℕ → List Descriptor → ℕ → List Descriptor → Type 0 where
  here : (depth : ℕ) (candidates : List Descriptor) → Reaches contents wanted depth candidates depth candidates
  below : (depth : ℕ) (candidates : List Descriptor) (d : Descriptor) (index : ImageIndex) (last : ℕ) (reached : List Descriptor)
      → IsMeant wanted depth candidates d → is_index d ≡ true → IsDocumentOf image_index contents d (image_index_plain index)
      → Reaches contents wanted (depth + 1) index.manifests.items last reached → Reaches contents wanted depth candidates last reached

-- P holds of candidates that are reached from these
abbrev pub Leads : (List ℕ → Option (List ℕ)) → Option Platform → (ℕ → List Descriptor → Type 0) → ℕ → List Descriptor → Type 0
Leads contents wanted P depth candidates = (last : ℕ) × (reached : List Descriptor) × Reaches contents wanted depth candidates last reached × P last reached

-- ---- the image

-- how many indexes an image may lie below
abbrev pub depth_limit : ℕ
depth_limit = 16

-- the wanted platform is that of the descriptor, by which it was chosen, or the one that the image's configuration states runs on it
abbrev pub Suits : (List ℕ → Option (List ℕ)) → Option Platform → Descriptor → List ℕ → Type 0
Suits contents None d bytes = ⊤
Suits contents (Some wanted) d bytes = d.platform ≡ None → (is_image d ≡ true) × ((p : Platform) × HasPlatform contents bytes p × Runs wanted p)

-- what was found is the content of a descriptor that suits the platform
pub record IsImageOf (contents : List ℕ → Option (List ℕ)) (wanted : Option Platform) (d : Descriptor) (f : FoundImage) : Type 0 where
  pub content : IsContent contents d f.bytes.items
  pub same : descriptor_plain f.descriptor ≡ descriptor_plain d
  pub suits : Suits contents wanted d f.bytes.items

-- it is the one that is meant of some candidates
pub record IsImageAmong (contents : List ℕ → Option (List ℕ)) (wanted : Option Platform) (f : FoundImage) (depth : ℕ) (candidates : List Descriptor) : Type 0 where
  pub deep : depth ≤ depth_limit
  pub d : Descriptor
  pub meant : IsMeant wanted depth candidates d
  pub no_index : is_index d ≡ false
  pub image : IsImageOf contents wanted d f

-- ---- why there is none

-- the content of this digest is not to be had, which is that of a descriptor or of its configuration
abbrev pub IsImageFault : Bool → (List ℕ → Option (List ℕ)) → Descriptor → List ℕ → Fault → Type 0
IsImageFault steady contents d digest fault =
    ((digest ≡ d.digest) × IsUnread steady contents d fault)
    ⊎ ((bytes : List ℕ) × IsContent contents d bytes × IsConfigFault steady contents d bytes digest fault)

abbrev pub IsIndexFault : Bool → (List ℕ → Option (List ℕ)) → Descriptor → List ℕ → Fault → Type 0
IsIndexFault steady contents d digest fault = (digest ≡ d.digest) × IsNoContent image_index steady contents d fault

-- the descriptor states no platform, and its configuration one that does not run on the wanted one, or it has none
abbrev pub IsUnsuited : (List ℕ → Option (List ℕ)) → Platform → Descriptor → Type 0
IsUnsuited contents wanted d = (d.platform ≡ None)
    × ((is_image d ≡ false) ⊎ ((bytes : List ℕ) × (p : Platform) × IsContent contents d bytes × HasPlatform contents bytes p × (¬ Runs wanted p)))

-- why a descriptor that is meant, and is no index, is not found
abbrev pub IsNoImageOf : Bool → (List ℕ → Option (List ℕ)) → Option Platform → Descriptor → FindError → Type 0
IsNoImageOf steady contents wanted d (Content digest fault) = IsImageFault steady contents d (string_bytes digest) fault
IsNoImageOf steady contents wanted d NoPlatform = (p : Platform) × (wanted ≡ Some p) × IsUnsuited contents p d
IsNoImageOf steady contents wanted d Memory = ⊤
IsNoImageOf steady contents wanted d _ = ⊥

-- why one that is an index is not read
abbrev pub IsNoIndexOf : Bool → (List ℕ → Option (List ℕ)) → ℕ → Descriptor → FindError → Type 0
IsNoIndexOf steady contents depth d (Content digest fault) = IsIndexFault steady contents d (string_bytes digest) fault
IsNoIndexOf steady contents depth d TooDeep = depth ≡ depth_limit
IsNoIndexOf steady contents depth d Memory = ⊤
IsNoIndexOf steady contents depth d _ = ⊥

-- why none is chosen for a platform
abbrev pub IsNoneBest : List Descriptor → Platform → FindError → Type 0
IsNoneBest candidates wanted NoName = candidates ≡ []
IsNoneBest candidates wanted NoPlatform = NoneRuns candidates wanted
IsNoneBest candidates wanted Memory = ⊤
IsNoneBest candidates wanted _ = ⊥

-- why none of some candidates is meant
abbrev pub IsNoneMeant : Option Platform → ℕ → List Descriptor → FindError → Type 0
IsNoneMeant wanted depth candidates NoName = candidates ≡ []
IsNoneMeant wanted depth candidates (Several n) = (wanted ≡ None) × (1 < n) × (length candidates ≡ n)
IsNoneMeant wanted depth candidates NoPlatform = (p : Platform) × (wanted ≡ Some p) × (is_lone depth candidates ≡ false) × NoneRuns candidates p
IsNoneMeant wanted depth candidates Memory = ⊤
IsNoneMeant wanted depth candidates _ = ⊥

-- why no image is found among some candidates: none is meant, or the one that is meant is not found
abbrev pub IsNoneAmong : Bool → (List ℕ → Option (List ℕ)) → Option Platform → FindError → ℕ → List Descriptor → Type 0
IsNoneAmong steady contents wanted e depth candidates = IsNoneMeant wanted depth candidates e
    ⊎ ((d : Descriptor) × IsMeant wanted depth candidates d
    × (((is_index d ≡ true) × IsNoIndexOf steady contents depth d e) ⊎ ((is_index d ≡ false) × IsNoImageOf steady contents wanted d e)))

-- ---- from `index.json` on

-- the first candidates: the manifests of an index that have the name, as far as their contents go
pub record IsNamedIn (name : Option (List ℕ)) (bytes : List ℕ) (candidates : List Descriptor) : Type 0 where
  pub index : ImageIndex
  pub means : MeansBytes image_index bytes (image_index_plain index)
  pub same : map descriptor_plain candidates ≡ map descriptor_plain (named name index.manifests.items)

-- the bytes of the file `index.json`, which is no larger than a document may be
abbrev pub IsTopBytes : (List ℕ → Option (List ℕ)) → List ℕ → Type 0
IsTopBytes tops bytes = (tops (codes "index.json") ≡ Some bytes) × (length bytes ≤ document_limit)

-- the first candidates are those of that file
pub record AreFirst (name : Option (List ℕ)) (tops : List ℕ → Option (List ℕ)) (candidates : List Descriptor) : Type 0 where
  pub bytes : List ℕ
  pub there : IsTopBytes tops bytes
  pub named : IsNamedIn name bytes candidates

-- why that file is no index
abbrev pub IsNoIndex : Bool → (List ℕ → Option (List ℕ)) → Fault → Type 0
IsNoIndex steady tops fault.Missing = tops (codes "index.json") ≡ None
IsNoIndex steady tops (fault.Unreadable why) = steady ≡ false
IsNoIndex steady tops fault.TooLarge = IsLarger document_limit (tops (codes "index.json"))
IsNoIndex steady tops (fault.Invalid why) =
    (bytes : List ℕ) × IsTopBytes tops bytes × IsInvalid image_index bytes (fault.Invalid why)
IsNoIndex steady tops (fault.Other found) = ⊥
IsNoIndex steady tops fault.Memory = ⊤

-- why there are no first candidates
abbrev pub AreNone : Bool → (List ℕ → Option (List ℕ)) → FindError → Type 0
AreNone steady tops (NoIndex fault) = IsNoIndex steady tops fault
AreNone steady tops Memory = ⊤
AreNone steady tops _ = ⊥

-- what was found is the image of this name and platform
pub record IsFoundIn (name : Option (List ℕ)) (wanted : Option Platform) (tops contents : List ℕ → Option (List ℕ)) (f : FoundImage) : Type 0 where
  pub candidates : List Descriptor
  pub first : AreFirst name tops candidates
  pub leads : Leads contents wanted (IsImageAmong contents wanted f) 0 candidates

-- why there is no image of this name and platform
abbrev pub IsNotFoundIn : Option (List ℕ) → Option Platform → Bool → (List ℕ → Option (List ℕ)) → (List ℕ → Option (List ℕ)) → FindError → Type 0
IsNotFoundIn name wanted steady tops contents e = AreNone steady tops e
    ⊎ ((candidates : List Descriptor) × AreFirst name tops candidates × Leads contents wanted (IsNoneAmong steady contents wanted e) 0 candidates)

-- where the files and the contents of a layout are known
abbrev pub OverLayout : Contents → Contents → ((List ℕ → Option (List ℕ)) → (List ℕ → Option (List ℕ)) → Type 0) → Type 0
OverLayout tops contents P = IfSome tops (λ t. IfSome contents (λ k. P t k))
