-- The conversion of an image configuration (image specification, "Conversion to OCI Runtime Configuration").
use Rattle.std.specs.Prelude.{ℕ, List, ◌≡◌, Option, option_and_then, IsSomeAnd}
use Rattle.oci_image.specs.declared.image_configuration.ImageConfiguration.{ImageConfiguration}
use Rattle.oci_runtime_records.specs.declared.mount.Mount.{Mount}
use Rattle.oci_runtime.specs.declared.spec.Spec.{Spec}
use Rattle.oci_convert.specs.Texts.{texts_of}
use Rattle.oci_convert.specs.Maps.{look_in}
use Rattle.oci_convert.specs.Annotations.{annotation}
use Rattle.oci_convert.specs.Processes.{ProcessBy}
use Rattle.oci_convert.specs.Volumes.{mounts_of, MountsGiven}

-- the users and groups in the container's context
module _ (is_user : List ℕ → ℕ → ℕ → Type 0) (is_own_group : ℕ → ℕ → Type 0) (is_group : List ℕ → ℕ → Type 0) (are_groups : List ℕ → List ℕ → Type 0) where
  -- what a runtime configuration becomes
  pub record Converts (image : ImageConfiguration) (volume : Option Mount) (before after : Spec) : Type 0 where
    pub process : IsSomeAnd before.process (λ p. IsSomeAnd after.process (λ q. ProcessBy is_user is_own_group is_group are_groups image.os image.config p q))
    pub mounts : MountsGiven volume (texts_of (option_and_then (λ c. c.volumes) image.config)) (mounts_of before.mounts) (mounts_of after.mounts)
    pub annotations : (key : List ℕ) → look_in after.annotations key ≡ annotation image (look_in before.annotations) key
    pub others : after ≡ record before { process = after.process; mounts = after.mounts; annotations = after.annotations }
