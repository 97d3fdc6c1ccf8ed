-- What `docker save` wrote before version 25, and what `podman save` and `skopeo copy` write for `docker-archive`: manifest.json lists images, each by a configuration,
-- which is named after its digest and has the digests of the layers (image specification, "OCI Image Configuration", "Layer DiffID").
use Rattle.std.specs.Prelude.{◌≡◌, ⊤, ℕ, ◌≤◌, List, [], ◌++◌, length, codes, slice_get, Option, Some, None, option_and_then, unwrap_or, IsSome}
use Rattle.std.specs.List.{All}
use Rattle.hex.specs.Hex.{encode_lower}
use Rattle.sha2.specs.Sha256.{sha256}
use Rattle.serde_json.specs.Data.{Data, Items}
use Rattle.serde_json.specs.Find.{as_array, as_str, get}
use Rattle.oci_model.specs.Means.{unless_null}
use Rattle.oci_json.specs.Engines.{ReadsAs}
use Rattle.oci_shapes.specs.ImageConfiguration.{image_configuration}
use Rattle.oci_content.specs.Content.{IsDigestOf}
use Rattle.oci_layout.specs.Claims.{items_at, list_of, string_at}
use Rattle.oci_layout.specs.Documents.{IsValid}

-- ---- an item of manifest.json

abbrev pub IsString : Data → Type 0
IsString d = IsSome (as_str d)

abbrev pub AreStrings : Option Items → Type 0
AreStrings None = ⊥
AreStrings (Some ds) = All IsString (list_of ds)

-- an array of strings, or nothing. What has no name, or no layer, has null in its place
abbrev pub MayBeStrings : Option Data → Type 0
MayBeStrings None = ⊤
MayBeStrings (Some d) = AreStrings (as_array d)

-- the path of a configuration, the names of the image, and the paths of its layers
pub record IsItem (item : Data) : Type 0 where
  pub config : IsSome (option_and_then as_str (get (codes "Config") item))
  pub tags : MayBeStrings (option_and_then unless_null (get (codes "RepoTags") item))
  pub layers : MayBeStrings (option_and_then unless_null (get (codes "Layers") item))

abbrev pub config_of : Data → List ℕ
config_of item = string_at (codes "Config") item

abbrev pub layers_of : Data → List Data
layers_of item = items_at (codes "Layers") item

-- ---- a configuration and its layers

-- the name of a configuration in the archive
abbrev pub config_name : List ℕ → List ℕ
config_name config = encode_lower (sha256 config) ++ codes ".json"

abbrev pub ids_in : Option Data → List Data
ids_in None = []
ids_in (Some rootfs) = items_at (codes "diff_ids") rootfs

-- the DiffIDs of a configuration
abbrev pub diff_ids_of : Data → List Data
diff_ids_of config = ids_in (get (codes "rootfs") config)

-- the text of a string
abbrev pub text_of : Data → List ℕ
text_of d = unwrap_or (as_str d) []

-- the layer is there, and has this DiffID
pub record IsLayer (files : List ℕ → Option (List ℕ)) (layer id : Data) : Type 0 where
  pub bytes : List ℕ
  pub there : files (text_of layer) ≡ Some bytes
  pub same : IsDigestOf (text_of id) bytes

-- as many layers as DiffIDs, and each layer has the DiffID at its place
pub record AreLayers (files : List ℕ → Option (List ℕ)) (layers ids : List Data) : Type 0 where
  pub count : length layers ≡ length ids
  pub each : (i : ℕ) (layer id : Data) → slice_get layers i ≡ Some layer → slice_get ids i ≡ Some id → IsLayer files layer id

-- the bytes are a configuration with these layers, named after their digest
pub record IsConfig (files : List ℕ → Option (List ℕ)) (name : List ℕ) (layers : List Data) (bytes : List ℕ) : Type 0 where
  pub named : name ≡ config_name bytes
  pub value : Data
  pub reads : ReadsAs bytes value
  pub valid : IsValid image_configuration value
  pub saved : AreLayers files layers (diff_ids_of value)

-- ---- the images

-- an image of manifest.json, whose configuration is no larger than the limit
pub record IsSavedImage (limit : ℕ) (files : List ℕ → Option (List ℕ)) (item : Data) : Type 0 where
  pub says : IsItem item
  pub bytes : List ℕ
  pub there : files (config_of item) ≡ Some bytes
  pub small : length bytes ≤ limit
  pub config : IsConfig files (config_of item) (layers_of item) bytes

-- the bytes are an array, of which each item is such an image
pub record IsManifest (limit : ℕ) (files : List ℕ → Option (List ℕ)) (bytes : List ℕ) : Type 0 where
  pub value : Data
  pub reads : ReadsAs bytes value
  pub items : Items
  pub array : as_array value ≡ Some items
  pub each : All (IsSavedImage limit files) (list_of items)

-- the files by path are what `docker save` writes, with no document larger than the limit
pub record IsSaved (limit : ℕ) (files : List ℕ → Option (List ℕ)) : Type 0 where
  pub bytes : List ℕ
  pub there : files (codes "manifest.json") ≡ Some bytes
  pub small : length bytes ≤ limit
  pub manifest : IsManifest limit files bytes
