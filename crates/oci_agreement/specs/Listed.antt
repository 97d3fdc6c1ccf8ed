-- What is told of an image whose documents do not agree, in order: agreement by agreement, and place by place.
use Rattle.std.specs.Prelude.{◌≡◌, ◌==◌, ◌+◌, ◌&&◌, ◌||◌, ℕ, List, [], ◌∷◌, ◌++◌, codes, bytes_eq, string_bytes, Bool, not, Option, Some, None, is_some, option_map, option_and_then, if◌then◌else◌}
use Rattle.std.specs.List.{Contains}
use Rattle.serde_json.specs.Data.{Data, Items, no_items, item, Members, no_members, member}
use Rattle.serde_json.specs.Find.{as_str, as_object}
use Rattle.serde_json.specs.View.{items_view}
use Rattle.oci_base.specs.Classes.{until}
use Rattle.oci_rules.specs.Decided.{if_any, there_and, all_items, begins_with}
use Rattle.oci_rules.specs.Listed.{has_text}
use Rattle.oci_rules.specs.Parts.{present, text_at, without}
use Rattle.oci_schema.specs.Places.{under_name, under_index}
use Rattle.oci_agreement.specs.Agree.{colon, image_keys}
use Rattle.oci_agreement.specs.Images.{Image, text_in, items_in, count_of, config_type, artifact_type, has_image_config, config_of, platform_of, layers_of, diff_ids_of, history_of, labels_of, annotations_of, variant_in}
use Rattle.oci_agreement.specs.Types.{oci_config, docker_config, docker_manifest, is_plain_type, is_layer_type}
use Rattle.oci_agreement.specs.declared.agreement.Agreement.{Agreement}
use Rattle.oci_agreement.specs.declared.agreement.Agreement.TheVariants.{DiffIdsCount, DiffId, HistoryCount, PlatformOs, PlatformArchitecture, PlatformVariant, PlatformOsVersion, PlatformOsFeatures, ArtifactType, AnnotationCopies, TypesMixed}
use Rattle.oci_agreement.specs.declared.broken.Document.{Document}
use Rattle.oci_agreement.specs.declared.broken.Document.TheVariants.{Manifest, Configuration}
use Rattle.oci_agreement.specs.declared.broken.Shown.{Shown as Given}
use Rattle.oci_agreement.specs.declared.broken.Shown.TheVariants as given
use Rattle.oci_agreement.specs.declared.broken.Seat.{Seat as GivenSeat}
use Rattle.oci_agreement.specs.declared.broken.Broken.{Broken}

-- what is shown of what was expected or found: a number, a text, or the texts of an array
pub data Shown : Type 0 where
  count : ℕ → Shown
  text : List ℕ → Shown
  texts : Items → Shown

abbrev pub shown_of : Given → Shown
shown_of (given.Count n) = count n
shown_of (given.Text t) = text t.now
shown_of (given.Texts v) = texts (items_view v.now.items)

-- where it is looked for: the agreement, and a place in one of the documents
pub record Seat : Type 0 where
  pub agreement : Agreement
  pub document : Document
  pub pointer : List ℕ

abbrev pub seat_of : GivenSeat → Seat
seat_of s = record { agreement = s.agreement; document = s.document; pointer = s.pointer.now }

-- the place, what another document lets expect there, and what is found
pub record Told : Type 0 where
  pub seat : Seat
  pub expected : Shown
  pub found : Shown

abbrev pub told_of : Broken → Told
told_of b = record {
  seat = record { agreement = b.agreement; document = b.document; pointer = string_bytes b.pointer };
  expected = shown_of b.expected;
  found = shown_of b.found;
}

abbrev pub tell : Seat → Shown → Shown → Told
tell s expected found = record { seat = s; expected = expected; found = found }

abbrev pub unless : Bool → Told → List Told
unless kept t = if kept then [] else t ∷ []

abbrev pub when : Bool → List Told → List Told
when so ts = if so then ts else []

-- ---- what is expected and what is found, where both are there

abbrev pub texts_told : (List ℕ → List ℕ → Bool) → Seat → Option (List ℕ) → Option (List ℕ) → List Told
texts_told same at None y = []
texts_told same at (Some s) None = []
texts_told same at (Some s) (Some t) = unless (same s t) (tell at (text s) (text t))

abbrev pub counts_told : Seat → Option ℕ → Option ℕ → List Told
counts_told at None y = []
counts_told at (Some m) None = []
counts_told at (Some m) (Some n) = unless (m == n) (tell at (count m) (count n))

abbrev pub have_same_texts : Items → Items → Bool
have_same_texts ds es = all_items (λ d. if_any (has_text es) (as_str d)) ds && all_items (λ e. if_any (has_text ds) (as_str e)) es

abbrev pub lists_told : Seat → Option Items → Option Items → List Told
lists_told at None y = []
lists_told at (Some ds) None = []
lists_told at (Some ds) (Some es) = unless (have_same_texts ds es) (tell at (texts ds) (texts es))

-- ---- layers

abbrev pub is_layer : Data → Bool
is_layer d = there_and is_layer_type (text_at (codes "mediaType") d)

abbrev pub are_layers : Option Items → Bool
are_layers o = if_any (all_items is_layer) o

abbrev pub is_filesystem_image : Image → Bool
is_filesystem_image i = has_image_config i.manifest && are_layers (layers_of i)

abbrev pub is_same_digest : List ℕ → List ℕ → Bool
is_same_digest s t = not (bytes_eq (until colon s) (until colon t)) || bytes_eq s t

abbrev pub is_plain : Data → Bool
is_plain d = there_and is_plain_type (text_at (codes "mediaType") d)

-- the digest of a layer that is not compressed
abbrev pub plain_digest : Data → Option (List ℕ)
plain_digest d = if is_plain d then text_at (codes "digest") d else None

abbrev pub diff_ids_at : List ℕ
diff_ids_at = codes "/rootfs/diff_ids"

abbrev pub diff_id_seat : ℕ → Seat
diff_id_seat n = record { agreement = DiffId; document = Configuration; pointer = under_index diff_ids_at n }

abbrev pub digest_told : ℕ → List ℕ → List ℕ → List Told
digest_told n s t = unless (is_same_digest s t) (tell (diff_id_seat n) (text s) (text t))

-- of each place from this one on that has a layer and a DiffID
abbrev pub diff_ids_told : ℕ → Items → Items → List Told
diff_ids_told n no_items es = []
diff_ids_told n (item d ds) no_items = []
diff_ids_told n (item d ds) (item e es) = texts_told is_same_digest (diff_id_seat n) (plain_digest d) (as_str e) ++ diff_ids_told (n + 1) ds es

abbrev pub layers_told : Option Items → Option Items → List Told
layers_told None y = []
layers_told (Some ds) None = []
layers_told (Some ds) (Some es) = diff_ids_told 0 ds es

-- ---- annotations

-- a key of the object under a pointer in a document
abbrev pub copy_seat : Document → List ℕ → List ℕ → Seat
copy_seat document front key = record { agreement = AnnotationCopies; document = document; pointer = under_name front key }

abbrev pub copy_told : Document → List ℕ → Option Data → Option Data → List ℕ → List Told
copy_told document front x y key = when (begins_with image_keys key) (texts_told bytes_eq (copy_seat document front key) (text_in key x) (text_in key y))

abbrev pub of_keys : (List ℕ → List Told) → Members → List Told
of_keys f no_members = []
of_keys f (member key d ms) = f key ++ of_keys f ms

abbrev pub of_members : (List ℕ → List Told) → Option Members → List Told
of_members f None = []
of_members f (Some ms) = of_keys f ms

-- of each key of what is found, in its order
abbrev pub copies_told : Document → List ℕ → Option Data → Option Data → List Told
copies_told document front x y = of_members (copy_told document front x y) (option_and_then as_object y)

-- ---- all of them

abbrev pub at : Agreement → Document → List ℕ → Seat
at agreement document pointer = record { agreement = agreement; document = document; pointer = pointer }

-- where the type of the artifact stands: where there is none, it is that of the configuration
abbrev pub artifact_type_at : Data → List ℕ
artifact_type_at manifest = if is_some (present (codes "artifactType") manifest) then codes "/artifactType" else codes "/config/mediaType"

abbrev pub is_mixed : Data → Bool
is_mixed manifest = there_and (bytes_eq docker_manifest) (text_at (codes "mediaType") manifest) && there_and (bytes_eq oci_config) (config_type manifest)

-- what is told by one agreement
abbrev pub told_by : Agreement → Image → List Told
told_by DiffIdsCount i = when (is_filesystem_image i) (counts_told (at DiffIdsCount Configuration diff_ids_at) (count_of (layers_of i)) (count_of (diff_ids_of i)))
told_by DiffId i = when (is_filesystem_image i) (layers_told (layers_of i) (diff_ids_of i))
told_by HistoryCount i =
    when (is_filesystem_image i) (counts_told (at HistoryCount Configuration (codes "/history")) (count_of (diff_ids_of i)) (option_map (without (codes "empty_layer")) (history_of i)))
told_by PlatformOs i = texts_told bytes_eq (at PlatformOs Configuration (codes "/os")) (text_in (codes "os") (platform_of i)) (text_in (codes "os") (config_of i))
told_by PlatformArchitecture i =
    texts_told bytes_eq (at PlatformArchitecture Configuration (codes "/architecture")) (text_in (codes "architecture") (platform_of i)) (text_in (codes "architecture") (config_of i))
told_by PlatformVariant i = texts_told bytes_eq (at PlatformVariant Configuration (codes "/variant")) (variant_in (platform_of i)) (variant_in (config_of i))
told_by PlatformOsVersion i =
    texts_told bytes_eq (at PlatformOsVersion Configuration (codes "/os.version")) (text_in (codes "os.version") (platform_of i)) (text_in (codes "os.version") (config_of i))
told_by PlatformOsFeatures i = lists_told (at PlatformOsFeatures Configuration (codes "/os.features")) (items_in (codes "os.features") (platform_of i)) (items_in (codes "os.features") (config_of i))
told_by ArtifactType i = texts_told bytes_eq (at ArtifactType Manifest (artifact_type_at i.manifest)) (text_in (codes "artifactType") i.descriptor) (artifact_type i.manifest)
told_by AnnotationCopies i =
    copies_told Manifest (codes "/annotations") (labels_of i) (annotations_of (Some i.manifest))
    ++ (copies_told Manifest (codes "/annotations") (annotations_of i.descriptor) (annotations_of (Some i.manifest))
    ++ copies_told Configuration (codes "/config/Labels") (annotations_of i.descriptor) (labels_of i))
told_by TypesMixed i = unless (not (is_mixed i.manifest)) (tell (at TypesMixed Manifest (codes "/config/mediaType")) (text docker_config) (text oci_config))

abbrev pub told_each : List Agreement → Image → List Told
told_each [] i = []
told_each (a ∷ rest) i = told_by a i ++ told_each rest i

abbrev pub every : List Agreement
every =
    DiffIdsCount ∷ DiffId ∷ HistoryCount ∷ PlatformOs ∷ PlatformArchitecture ∷ PlatformVariant ∷ PlatformOsVersion ∷ PlatformOsFeatures ∷ ArtifactType ∷ AnnotationCopies ∷ TypesMixed ∷ []

-- what is told of an image
abbrev pub all_told : Image → List Told
all_told i = told_each every i

-- something is told by this agreement
abbrev pub IsToldBy : List Told → Agreement → Type 0
IsToldBy ts a = (t : Told) × Contains ts t × (t.seat.agreement ≡ a)
