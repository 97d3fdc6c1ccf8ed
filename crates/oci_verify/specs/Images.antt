-- The images of a layout, and what their documents agree on (image specification, "Image Index", "Image Manifest", "OCI Image Configuration").
use Rattle.std.specs.Prelude.{◌≡◌, ◌&&◌, ◌||◌, ⊤, ℕ, ◌≤◌, List, Bool, true, false, codes, Option, Some, None, IsTrue}
use Rattle.std.specs.List.{All}
use Rattle.serde_json.specs.Data.{Data}
use Rattle.serde_json.specs.Find.{get}
use Rattle.oci_base.specs.Digest.{IsDigestText}
use Rattle.oci_json.specs.Engines.{ReadsAs}
use Rattle.oci_content.specs.Content.{IsContentOf}
use Rattle.oci_layout.specs.Claims.{items_at}
use Rattle.oci_layout.specs.Kinds.{kind_of}
use Rattle.oci_layout.specs.Looks.{Contents}
use Rattle.oci_layout.specs.declared.claim.Claim.{Claim}
use Rattle.oci_layout.specs.declared.kind.Kind.{Kind}
use Rattle.oci_layout.specs.declared.kind.Kind.TheVariants.{Index, DockerList, Manifest, DockerManifest}
use Rattle.oci_agreement.specs.Agree.{Agree}
use Rattle.oci_agreement.specs.Described.{described}
use Rattle.oci_agreement.specs.Descriptors.{Mention, mention_in}
use Rattle.oci_agreement.specs.Images.{Image}
use Rattle.oci_agreement.specs.declared.agreement.Agreement.{Agreement}
use Rattle.oci_findings.specs.Asked.{asks}
use Rattle.oci_findings.specs.Checks.{binds}
use Rattle.oci_findings.specs.declared.asked.Check.{Check}
use Rattle.oci_verify.specs.Kept.{AreBytes, IsKept}
use Rattle.oci_verify.specs.Layers.{LayersUnpack}

-- ---- documents, by the contents of a layout

-- the value stands in the content that has this digest and size, which is no larger than a document may be
pub record IsValueOf (limit : ℕ) (contents : List ℕ → Option (List ℕ)) (digest : List ℕ) (size : ℕ) (value : Data) : Type 0 where
  pub named : IsDigestText digest
  pub small : size ≤ limit
  pub bytes : List ℕ
  pub there : contents digest ≡ Some bytes
  pub same : IsContentOf digest size bytes
  pub reads : ReadsAs bytes value

-- the bytes are kept under the digest with this size, which is no larger than a document may be
abbrev pub IsSmallKept : ℕ → (List ℕ → Option (List ℕ)) → List ℕ → ℕ → List ℕ → Type 0
IsSmallKept limit contents digest size bytes = (size ≤ limit) × IsKept contents digest size bytes

-- they are all of these bytes, and have the digest and the size
abbrev pub IsWhole : List ℕ → List ℕ → ℕ → List ℕ → Type 0
IsWhole all digest size bytes = (bytes ≡ all) × IsContentOf digest size bytes

-- the same value, of the digest and the size that a descriptor says
pub record IsDocumentOf (limit : ℕ) (contents : List ℕ → Option (List ℕ)) (descriptor value : Data) : Type 0 where
  pub said : Mention
  pub says : mention_in descriptor ≡ Some said
  pub content : IsValueOf limit contents said.digest said.size value

-- the same of a descriptor that may be absent
abbrev pub LeadsTo : ℕ → (List ℕ → Option (List ℕ)) → Option Data → Data → Type 0
LeadsTo limit contents None value = ⊥
LeadsTo limit contents (Some descriptor) value = IsDocumentOf limit contents descriptor value

-- it is one that is so, or none is so
abbrev pub IsFound : {X : Type 0} → (X → Type 0) → Option X → Type 0
IsFound P (Some x) = P x
IsFound {X} P None = (x : X) → ¬ P x

-- ---- images

abbrev pub is_index : Kind → Bool
is_index Index = true
is_index DockerList = true
is_index _ = false

abbrev pub is_manifest : Kind → Bool
is_manifest Manifest = true
is_manifest DockerManifest = true
is_manifest _ = false

-- the descriptor says the media type of an image manifest
abbrev pub is_image_mention : Option Mention → Bool
is_image_mention None = false
is_image_mention (Some said) = is_manifest (kind_of said.media_type)

abbrev pub is_image : Data → Bool
is_image descriptor = is_image_mention (mention_in descriptor)

-- the descriptor leads to a manifest, and this to the configuration, where that is there
pub record IsImageOf (limit : ℕ) (contents : List ℕ → Option (List ℕ)) (descriptor : Data) (i : Image) : Type 0 where
  pub typed : IsTrue (is_image descriptor)
  pub descriptor_is : i.descriptor ≡ Some descriptor
  pub manifest : IsDocumentOf limit contents descriptor i.manifest
  pub config : IsFound (LeadsTo limit contents (get (codes "config") i.manifest)) i.config

-- ---- what counts of what they agree on

-- it is asked, by its name, and binds, or warnings count too
abbrev pub counts : Check → Agreement → Bool
counts asked a = asks asked (described a).name && (asked.strict || binds (described a).level)

abbrev pub Keeps : Check → Image → Type 0
Keeps asked i = (a : Agreement) → IsTrue (counts asked a) → Agree a i

-- so do its documents, and its layers unpack to what its configuration says
abbrev pub IsFine : Check → (List ℕ → Option (List ℕ)) → Image → Type 0
IsFine asked contents i = Keeps asked i × LayersUnpack asked contents i

-- so is the image to which a descriptor leads
abbrev pub KeepsFrom : Check → ℕ → (List ℕ → Option (List ℕ)) → Data → Type 0
KeepsFrom asked limit contents descriptor = (i : Image) → IsImageOf limit contents descriptor i → IsFine asked contents i

-- the same where the manifest is known
abbrev pub KeepsWith : Check → ℕ → (List ℕ → Option (List ℕ)) → Data → Data → Type 0
KeepsWith asked limit contents descriptor manifest =
    (config : Option Data) → IsFound (LeadsTo limit contents (get (codes "config") manifest)) config
    → IsFine asked contents (record { descriptor = Some descriptor; manifest = manifest; config = config })

-- so is each of an index
abbrev pub AllKeep : Check → ℕ → (List ℕ → Option (List ℕ)) → Data → Type 0
AllKeep asked limit contents index = All (KeepsFrom asked limit contents) (items_at (codes "manifests") index)

-- so is each of the index that is claimed, if it is one
abbrev pub ClaimKeeps : Check → ℕ → (List ℕ → Option (List ℕ)) → Claim → Type 0
ClaimKeeps asked limit contents c = IsTrue (is_index c.kind) → (d : Data) → IsValueOf limit contents c.digest c.size d → AllKeep asked limit contents d

-- so is each of the index in these bytes
abbrev pub BytesKeep : Check → ℕ → (List ℕ → Option (List ℕ)) → List ℕ → Type 0
BytesKeep asked limit contents bytes = (d : Data) → ReadsAs bytes d → AllKeep asked limit contents d

-- so is each of the index in these bytes, and each of those that are claimed
abbrev pub ImagesKeep : Check → ℕ → (List ℕ → Option (List ℕ)) → List ℕ → List Claim → Type 0
ImagesKeep asked limit contents bytes claims = BytesKeep asked limit contents bytes × All (ClaimKeeps asked limit contents) claims

-- ---- where the contents are known and are bytes, and no read fails

abbrev pub OverContents : Bool → Contents → ((List ℕ → Option (List ℕ)) → Type 0) → Type 0
OverContents true (Some contents) P = AreBytes contents → P contents
OverContents true None P = ⊤
OverContents false contents P = ⊤
