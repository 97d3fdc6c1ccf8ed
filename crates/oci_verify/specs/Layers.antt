-- What the compressed layers of an image unpack to (image specification, "OCI Image Configuration", "Layer DiffID"; "Image Layer Filesystem Changeset", "+gzip Media Types").
use Rattle.std.specs.Prelude.{◌≡◌, ⊤, ℕ, List, Bool, not, codes, slice_get, Option, None, Some, IfSome, IsTrue}
use Rattle.serde_json.specs.Data.{Data}
use Rattle.serde_json.specs.Find.{as_str}
use Rattle.serde_json.specs.View.{view}
use Rattle.serde_json.specs.declared.value.Value.{Value}
use Rattle.gzip.specs.Gzip.{IsGzip}
use Rattle.oci_content.specs.Content.{IsBy, checksum_text, digest_text}
use Rattle.oci_content.specs.declared.algorithm.Algorithm.{Algorithm}
use Rattle.oci_content.specs.declared.checksum.Checksum.{Checksum}
use Rattle.oci_agreement.specs.Agree.{EachPair}
use Rattle.oci_agreement.specs.Descriptors.{Mention, mention_in}
use Rattle.oci_agreement.specs.Images.{Image, diff_ids_of, layers_of}
use Rattle.oci_agreement.specs.Listed.{is_filesystem_image}
use Rattle.oci_findings.specs.Asked.{asks}
use Rattle.oci_findings.specs.declared.asked.Check.{Check}
use Rattle.oci_layers.specs.Encodings.{encoding_of}
use Rattle.oci_layers.specs.declared.encoding.Encoding.TheVariants.{Gzip}
use Rattle.oci_verify.specs.Kept.{IsKept}
use Rattle.oci_verify.specs.declared.layers.Wrong.{Wrong}
use Rattle.oci_verify.specs.declared.layers.Wrong.TheVariants.{NotGzip, OtherId, Unread}

-- ---- one layer

-- the bytes are a gzip file
abbrev pub IsGzipFile : List ℕ → Type 0
IsGzipFile bytes = (archive : List ℕ) × IsGzip bytes archive

-- the DiffID, where it is a text, is the digest of the archive by the algorithm that it names; where that is none of those that are known, nothing is asked
abbrev pub IsDiffIdOf : Data → List ℕ → Type 0
IsDiffIdOf id archive = IfSome (as_str id) (λ t. (a : Algorithm) → IsBy a t → t ≡ digest_text a archive)

-- the archive to which the bytes decompress has this DiffID
abbrev pub HasDiffId : List ℕ → Data → Type 0
HasDiffId bytes id = (archive : List ℕ) → IsGzip bytes archive → IsDiffIdOf id archive

-- what is asked of the bytes of a layer, by its name
pub record IsUnpacked (asked : Check) (bytes : List ℕ) (id : Data) : Type 0 where
  pub archive : IsTrue (asks asked (codes "layer-archive")) → IsGzipFile bytes
  pub diff_id : IsTrue (asks asked (codes "image-diff-id")) → HasDiffId bytes id

-- the content that has the digest and the size that are said, if it is there, is that
abbrev pub ContentUnpacks : Check → (List ℕ → Option (List ℕ)) → Mention → Data → Type 0
ContentUnpacks asked contents said id = (bytes : List ℕ) → IsKept contents said.digest said.size bytes → IsUnpacked asked bytes id

-- so is the content of a layer whose media type is one of layers in gzip's format
abbrev pub LayerUnpacks : Check → (List ℕ → Option (List ℕ)) → Data → Data → Type 0
LayerUnpacks asked contents layer id =
    (said : Mention) → mention_in layer ≡ Some said → encoding_of said.media_type ≡ Some Gzip → ContentUnpacks asked contents said id

-- so is each layer of an image of a filesystem, with the DiffID at its place
abbrev pub LayersUnpack : Check → (List ℕ → Option (List ℕ)) → Image → Type 0
LayersUnpack asked contents i = IsTrue (is_filesystem_image i) → IfSome (layers_of i) (λ ls. IfSome (diff_ids_of i) (EachPair (LayerUnpacks asked contents) ls))

-- ---- what is found of the bytes of a layer

-- the checksum is that of this DiffID, where that names an algorithm that is known
abbrev pub IsSumOf : Data → Checksum → Type 0
IsSumOf id sum = IfSome (as_str id) (λ t. (a : Algorithm) → IsBy a t → t ≡ checksum_text sum)

-- what is wrong with them, or nothing; where they could not be read, nothing is said
abbrev pub IsWrong : List ℕ → Data → Option Wrong → Type 0
IsWrong bytes id None = IsGzipFile bytes × HasDiffId bytes id
IsWrong bytes id (Some (NotGzip e)) = ¬ IsGzipFile bytes
IsWrong bytes id (Some (OtherId sum)) = IsGzipFile bytes × ¬ HasDiffId bytes id
IsWrong bytes id (Some (Unread e)) = ⊤

-- the layer at a place unpacks to the DiffID there, where there are both
abbrev pub PlaceUnpacks : Check → (List ℕ → Option (List ℕ)) → List Value → List Value → ℕ → Type 0
PlaceUnpacks asked contents layers ids place =
    (layer id : Value) → slice_get layers place ≡ Some layer → slice_get ids place ≡ Some id → LayerUnpacks asked contents (view layer) (view id)

-- whether that may be, since it is not asked; of what could not be read there is no answer
abbrev pub MayBe : Check → Wrong → Bool → Type 0
MayBe asked (NotGzip e) may = may ≡ not (asks asked (codes "layer-archive"))
MayBe asked (OtherId sum) may = may ≡ not (asks asked (codes "image-diff-id"))
MayBe asked (Unread e) may = ⊥
