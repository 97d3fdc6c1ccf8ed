-- What the documents of an image agree on. Where one of them does not say it, nothing is asked: that it has to is for its schema.
use Rattle.std.specs.Prelude.{◌≡◌, ◌≢◌, ℕ, List, codes, Option, Some, IfSome, IsSomeAnd, IsTrue, option_map, ⊤}
use Rattle.serde_json.specs.Data.{Data, Items, no_items, item}
use Rattle.serde_json.specs.Find.{as_str}
use Rattle.oci_base.specs.Classes.{until}
use Rattle.oci_rules.specs.Parts.{text_at, without}
use Rattle.oci_rules.specs.Tests.{BeginsWith, EachItem, IsAmong}
use Rattle.oci_agreement.specs.Images.{Image, text_in, items_in, count_of, config_type, artifact_type, config_of, platform_of, layers_of, diff_ids_of, history_of, labels_of, annotations_of, variant_in}
use Rattle.oci_agreement.specs.Types.{oci_config, docker_manifest, is_config_type, is_plain_type, is_layer_type}
use Rattle.oci_agreement.specs.declared.agreement.Agreement.{Agreement}
use Rattle.oci_agreement.specs.declared.agreement.Agreement.TheVariants.{DiffIdsCount, DiffId, HistoryCount, PlatformOs, PlatformArchitecture, PlatformVariant, PlatformOsVersion, PlatformOsFeatures, ArtifactType, AnnotationCopies, TypesMixed}

-- where both are there, they are the same
abbrev pub Same : {A : Type 0} → Option A → Option A → Type 0
Same x y = IfSome x (λ a. IfSome y (λ b. a ≡ b))

-- ---- layers (rows on them are asked of images of a filesystem alone: some artifacts have an image's type of configuration for other
-- things; image specification, "Guidance for Artifacts Authors")

abbrev pub HasImageConfig : Data → Type 0
HasImageConfig manifest = IsSomeAnd (config_type manifest) (λ t. IsTrue (is_config_type t))

abbrev pub IsLayer : Data → Type 0
IsLayer d = IsSomeAnd (text_at (codes "mediaType") d) (λ t. IsTrue (is_layer_type t))

-- its configuration is an image's, and each of its layers is one of a filesystem
abbrev pub IsFilesystemImage : Image → Type 0
IsFilesystemImage i = HasImageConfig i.manifest × IfSome (layers_of i) (EachItem IsLayer)

abbrev pub colon : ℕ
colon = 58

-- by one algorithm, they are the same
abbrev pub IsSameDigest : List ℕ → List ℕ → Type 0
IsSameDigest s t = until colon s ≡ until colon t → s ≡ t

abbrev pub IsPlain : Data → Type 0
IsPlain layer = IsSomeAnd (text_at (codes "mediaType") layer) (λ t. IsTrue (is_plain_type t))

-- the digest of a layer that is not compressed is its DiffID
abbrev pub HasDiffId : Data → Data → Type 0
HasDiffId layer id = IsPlain layer → IfSome (text_at (codes "digest") layer) (λ s. IfSome (as_str id) (IsSameDigest s))

-- of the items of two lists at each place that both have
abbrev pub EachPair : (Data → Data → Type 0) → Items → Items → Type 0
EachPair P no_items es = ⊤
EachPair P (item d ds) no_items = ⊤
EachPair P (item d ds) (item e es) = P d e × EachPair P ds es

-- ---- texts

abbrev pub HaveSameTexts : Items → Items → Type 0
HaveSameTexts ds es = EachItem (IsAmong es) ds × EachItem (IsAmong ds) es

-- the keys of annotations of images
abbrev pub image_keys : List ℕ
image_keys = codes "org.opencontainers.image."

-- each such key that both have is there with one value
abbrev pub HaveSameCopies : Option Data → Option Data → Type 0
HaveSameCopies x y = (key : List ℕ) → BeginsWith image_keys key → Same (text_in key x) (text_in key y)

-- ---- all of them

abbrev pub Agree : Agreement → Image → Type 0
Agree DiffIdsCount i = IsFilesystemImage i → Same (count_of (layers_of i)) (count_of (diff_ids_of i))
Agree DiffId i = IsFilesystemImage i → IfSome (layers_of i) (λ ls. IfSome (diff_ids_of i) (EachPair HasDiffId ls))
Agree HistoryCount i = IsFilesystemImage i → Same (count_of (diff_ids_of i)) (option_map (without (codes "empty_layer")) (history_of i))
Agree PlatformOs i = Same (text_in (codes "os") (platform_of i)) (text_in (codes "os") (config_of i))
Agree PlatformArchitecture i = Same (text_in (codes "architecture") (platform_of i)) (text_in (codes "architecture") (config_of i))
Agree PlatformVariant i = Same (variant_in (platform_of i)) (variant_in (config_of i))
Agree PlatformOsVersion i = Same (text_in (codes "os.version") (platform_of i)) (text_in (codes "os.version") (config_of i))
Agree PlatformOsFeatures i = IfSome (items_in (codes "os.features") (platform_of i)) (λ xs. IfSome (items_in (codes "os.features") (config_of i)) (HaveSameTexts xs))
Agree ArtifactType i = Same (text_in (codes "artifactType") i.descriptor) (artifact_type i.manifest)
Agree AnnotationCopies i =
    HaveSameCopies (labels_of i) (annotations_of (Some i.manifest))
    × (HaveSameCopies (annotations_of i.descriptor) (annotations_of (Some i.manifest))
    × HaveSameCopies (annotations_of i.descriptor) (labels_of i))
Agree TypesMixed i = text_at (codes "mediaType") i.manifest ≡ Some docker_manifest → config_type i.manifest ≢ Some oci_config
