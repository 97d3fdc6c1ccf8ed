-- Which manifest of an image index runs on a platform (image specification, "Image Index").
use Rattle.std.specs.Prelude.{ℕ, ◌<◌, ◌≤◌, List, Some, ◌≡◌, slice_get}
use Rattle.oci_descriptor.specs.declared.descriptor.Descriptor.{Descriptor}
use Rattle.oci_descriptor.specs.declared.platform.Platform.{Platform}
use Rattle.oci_select.specs.Fits.{Fits}
use Rattle.oci_select.specs.Normal.{Names, names_of}
use Rattle.oci_select.specs.Runs.{runs_on}

-- a manifest states a platform of these names, and what that states of its system fits the wanted one; without a platform, it is for none
pub record IsFor (wanted : Platform) (names : Names) (manifest : Descriptor) : Type 0 where
  pub platform : Platform
  pub is_platform : manifest.platform ≡ Some platform
  pub is_named : names_of platform ≡ names
  pub fits : Fits wanted platform

-- so does the i-th
pub record IsForAt (manifests : List Descriptor) (wanted : Platform) (names : Names) (i : ℕ) : Type 0 where
  pub manifest : Descriptor
  pub is_manifest : slice_get manifests i ≡ Some manifest
  pub is_for : IsFor wanted names manifest

-- the i-th manifest is for the platform at this place of those that run on the wanted one
pub record RunsAt (manifests : List Descriptor) (wanted : Platform) (i place : ℕ) : Type 0 where
  pub names : Names
  pub is_place : slice_get (runs_on (names_of wanted)) place ≡ Some names
  pub is_for_at : IsForAt manifests wanted names i

-- no manifest has a better place than the i-th, and none before it the same
pub record IsChosen (manifests : List Descriptor) (wanted : Platform) (i : ℕ) : Type 0 where
  pub place : ℕ
  pub runs : RunsAt manifests wanted i place
  pub best : (j other : ℕ) → RunsAt manifests wanted j other → place ≤ other
  pub first : (j : ℕ) → j < i → ¬ RunsAt manifests wanted j place

-- the descriptor is that of the manifest that is chosen
pub record Chooses (manifests : List Descriptor) (wanted : Platform) (manifest : Descriptor) : Type 0 where
  pub i : ℕ
  pub is_chosen : IsChosen manifests wanted i
  pub is_manifest : slice_get manifests i ≡ Some manifest

-- no manifest runs on the wanted platform
abbrev pub NoneRuns : List Descriptor → Platform → Type 0
NoneRuns manifests wanted = (i place : ℕ) → ¬ RunsAt manifests wanted i place
