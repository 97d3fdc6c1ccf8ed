-- The configuration of an image, by the bytes of its manifest (image specification, "Image Manifest", `config`).
use Rattle.std.specs.Prelude.{◌≡◌, ◌⊎◌, ℕ, List, Bool, Option}
use Rattle.oci_descriptor.specs.declared.descriptor.Descriptor.{Descriptor}
use Rattle.oci_descriptor.specs.declared.platform.Platform.{Platform}
use Rattle.oci_image.specs.ImageConfiguration.{image_configuration_plain}
use Rattle.oci_image.specs.ImageManifest.{image_manifest_plain}
use Rattle.oci_image.specs.declared.image_configuration.ImageConfiguration.{ImageConfiguration}
use Rattle.oci_image.specs.declared.image_manifest.ImageManifest.{ImageManifest}
use Rattle.oci_json.specs.Engines.{MeansBytes}
use Rattle.oci_shapes.specs.ImageConfiguration.{image_configuration}
use Rattle.oci_shapes.specs.ImageManifest.{image_manifest}
use Rattle.oci_inspect.specs.Contents.{IsContent, IsDocumentOf, IsInvalid, IsNoContent, IsUnread}
use Rattle.oci_inspect.specs.Platforms.{IsPlatformOf}
use Rattle.oci_inspect.specs.declared.fault.Fault.{Fault}

-- the bytes of a manifest's configuration, by the bytes of the manifest
pub record IsConfigOf (contents : List ℕ → Option (List ℕ)) (bytes config : List ℕ) : Type 0 where
  pub manifest : ImageManifest
  pub means : MeansBytes image_manifest bytes (image_manifest_plain manifest)
  pub content : IsContent contents manifest.config config

-- the configuration of a manifest states this platform
pub record StatesPlatform (contents : List ℕ → Option (List ℕ)) (manifest : ImageManifest) (p : Platform) : Type 0 where
  pub configuration : ImageConfiguration
  pub document : IsDocumentOf image_configuration contents manifest.config (image_configuration_plain configuration)
  pub stated : IsPlatformOf configuration p

-- the same by the bytes of the manifest
pub record HasPlatform (contents : List ℕ → Option (List ℕ)) (bytes : List ℕ) (p : Platform) : Type 0 where
  pub manifest : ImageManifest
  pub means : MeansBytes image_manifest bytes (image_manifest_plain manifest)
  pub states : StatesPlatform contents manifest p

-- ---- why there is none: the content of this digest is not to be had

-- it is the manifest's, and no manifest
abbrev pub IsManifestFault : Descriptor → List ℕ → List ℕ → Fault → Type 0
IsManifestFault d bytes digest fault = (digest ≡ d.digest) × IsInvalid image_manifest bytes fault

-- it is the configuration's, and unread
abbrev pub IsUnreadConfig : Bool → (List ℕ → Option (List ℕ)) → ImageManifest → List ℕ → Fault → Type 0
IsUnreadConfig steady contents m digest fault = (digest ≡ m.config.digest) × IsUnread steady contents m.config fault

-- or no configuration
abbrev pub IsNoConfiguration : Bool → (List ℕ → Option (List ℕ)) → ImageManifest → List ℕ → Fault → Type 0
IsNoConfiguration steady contents m digest fault = (digest ≡ m.config.digest) × IsNoContent image_configuration steady contents m.config fault

-- the configuration's bytes are no configuration
abbrev pub IsInvalidConfig : ImageManifest → List ℕ → List ℕ → Fault → Type 0
IsInvalidConfig m bytes digest fault = (digest ≡ m.config.digest) × IsInvalid image_configuration bytes fault

-- it is the manifest's or the configuration's
abbrev pub IsConfigFault : Bool → (List ℕ → Option (List ℕ)) → Descriptor → List ℕ → List ℕ → Fault → Type 0
IsConfigFault steady contents d bytes digest fault = IsManifestFault d bytes digest fault
    ⊎ ((m : ImageManifest) × MeansBytes image_manifest bytes (image_manifest_plain m) × IsNoConfiguration steady contents m digest fault)
