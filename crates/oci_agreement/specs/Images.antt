-- An image, and what its documents say (image specification, "Image Manifest", "OCI Image Configuration", "Image Index").
use Rattle.std.specs.Prelude.{ℕ, List, codes, bytes_eq, Bool, Option, Some, None, option_map, option_and_then, is_some, if◌then◌else◌}
use Rattle.serde_json.specs.Data.{Data, Items}
use Rattle.serde_json.specs.Events.{items_len}
use Rattle.serde_json.specs.View.{view}
use Rattle.oci_rules.specs.Decided.{there_and}
use Rattle.oci_rules.specs.Parts.{present, text_at, items_at}
use Rattle.oci_agreement.specs.Types.{is_config_type}
use Rattle.oci_agreement.specs.declared.image.Image.{Image as Given}

-- the descriptor that leads to the manifest, where one does; the manifest; and its configuration, where it is known
pub record Image : Type 0 where
  pub descriptor : Option Data
  pub manifest : Data
  pub config : Option Data

abbrev pub image_of : Given → Image
image_of i = record {
  descriptor = option_map (λ v. view v.now) i.descriptor;
  manifest = view i.manifest.now;
  config = option_map (λ v. view v.now) i.config;
}

-- ---- what stands under a name in a value that may be absent

abbrev pub part_in : List ℕ → Option Data → Option Data
part_in name o = option_and_then (present name) o

abbrev pub text_in : List ℕ → Option Data → Option (List ℕ)
text_in name o = option_and_then (text_at name) o

abbrev pub items_in : List ℕ → Option Data → Option Items
items_in name o = option_and_then (items_at name) o

-- the text under a name, or another where nothing stands there
abbrev pub text_or : Option (List ℕ) → List ℕ → Option Data → Option (List ℕ)
text_or other name o = if is_some (part_in name o) then text_in name o else other

abbrev pub count_of : Option Items → Option ℕ
count_of o = option_map items_len o

-- ---- what the documents say

abbrev pub config_type : Data → Option (List ℕ)
config_type manifest = text_in (codes "mediaType") (present (codes "config") manifest)

-- the type of the artifact, or that of the configuration where there is none (image specification, "Image Manifest", "Guidelines for Artifact Usage")
abbrev pub artifact_type : Data → Option (List ℕ)
artifact_type manifest = text_or (config_type manifest) (codes "artifactType") (Some manifest)

abbrev pub has_image_config : Data → Bool
has_image_config manifest = there_and is_config_type (config_type manifest)

-- the configuration, where its type is that of an image's
abbrev pub config_of : Image → Option Data
config_of i = if has_image_config i.manifest then i.config else None

-- the platform that the descriptor is for
abbrev pub platform_of : Image → Option Data
platform_of i = part_in (codes "platform") i.descriptor

abbrev pub layers_of : Image → Option Items
layers_of i = items_at (codes "layers") i.manifest

abbrev pub diff_ids_of : Image → Option Items
diff_ids_of i = items_in (codes "diff_ids") (part_in (codes "rootfs") (config_of i))

abbrev pub history_of : Image → Option Items
history_of i = items_in (codes "history") (config_of i)

abbrev pub labels_of : Image → Option Data
labels_of i = part_in (codes "Labels") (part_in (codes "config") (config_of i))

abbrev pub annotations_of : Option Data → Option Data
annotations_of o = part_in (codes "annotations") o

-- that of an `arm64` which says none is `v8` (image specification, "Image Index", "Platform Variants")
abbrev pub implied_variant : Option (List ℕ) → Option (List ℕ)
implied_variant architecture = if there_and (bytes_eq (codes "arm64")) architecture then Some (codes "v8") else None

abbrev pub variant_in : Option Data → Option (List ℕ)
variant_in o = text_or (implied_variant (text_in (codes "architecture") o)) (codes "variant") o
