-- Platforms of images (image specification, "Image Index" and "Image Configuration").
use Rattle.std.specs.Prelude.{◌≡◌, ℕ, Some, map, option_map, slice_get, string_bytes}
use Rattle.oci_text.specs.Arch.{arch_name}
use Rattle.oci_text.specs.Os.{os_name}
use Rattle.oci_descriptor.specs.declared.platform.Platform.{Platform}
use Rattle.oci_image.specs.declared.image_configuration.ImageConfiguration.{ImageConfiguration}
use Rattle.oci_select.specs.Fits.{Fits}
use Rattle.oci_select.specs.Normal.{names_of}
use Rattle.oci_select.specs.Runs.{runs_on}

-- a platform is one of those that run on the wanted one, and what it states of its system fits
pub record Runs (wanted platform : Platform) : Type 0 where
  pub place : ℕ
  pub is_place : slice_get (runs_on (names_of wanted)) place ≡ Some (names_of platform)
  pub fits : Fits wanted platform

-- the platform that a configuration states
pub record IsPlatformOf (c : ImageConfiguration) (p : Platform) : Type 0 where
  pub architecture : arch_name p.architecture ≡ arch_name c.architecture
  pub os : os_name p.os ≡ os_name c.os
  pub variant : option_map string_bytes p.variant ≡ option_map string_bytes c.variant
  pub version : option_map string_bytes p.os_version ≡ option_map string_bytes c.os_version
  pub features : option_map (λ v. map string_bytes v.items) p.os_features ≡ option_map (λ v. map string_bytes v.items) c.os_features
