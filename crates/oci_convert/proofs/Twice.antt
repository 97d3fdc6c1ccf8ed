-- A conversion's result is a conversion of itself, and has no annotation that neither side says.
use Rattle.std.proofs.Common.{◌≡◌, ℕ, List, ◌⊎◌, Option, Some, None, refl}
use Rattle.std.specs.Prelude.{option_and_then, IsSomeAnd}
use Rattle.oci_image.specs.declared.config.Config.{Config}
use Rattle.oci_image.specs.declared.image_configuration.ImageConfiguration.{ImageConfiguration}
use Rattle.oci_runtime_records.specs.declared.mount.Mount.{Mount}
use Rattle.oci_runtime.specs.declared.spec.Spec.{Spec}
use Rattle.oci_convert.specs.Texts.{texts_of}
use Rattle.oci_convert.specs.Maps.{value_of, look_in}
use Rattle.oci_convert.specs.Annotations.{implied, label_of}
use Rattle.oci_convert.specs.Volumes.{mounts_of}
use Rattle.oci_convert.specs.Processes.{ProcessBy}
use Rattle.oci_convert.specs.Converts.{Converts}
use Rattle.oci_convert.proofs.Again.{either_twice, said_by_one, process_twice}
use Rattle.oci_convert.proofs.Mounted.{mounts_twice}

some_twice : {X : Type 0} (P : X → X → Type 0) (o r : Option X) → ((p q : X) → P p q → P q q) → IsSomeAnd o (λ p. IsSomeAnd r (λ q. P p q)) → IsSomeAnd r (λ p. IsSomeAnd r (λ q. P p q))
some_twice P None r twice h = absurd h
some_twice P (Some p) None twice h = absurd h
some_twice P (Some p) (Some q) twice h = twice p q h

module _ (is_user : List ℕ → ℕ → ℕ → Type 0) (is_own_group : ℕ → ℕ → Type 0) (is_group : List ℕ → ℕ → Type 0) (are_groups : List ℕ → List ℕ → Type 0) where
  pub once : (image : ImageConfiguration) (volume : Option Mount) (before after : Spec) → Converts is_user is_own_group is_group are_groups image volume before after → Converts is_user is_own_group is_group are_groups image volume after after
  once image volume before after h = record {
    process = some_twice (ProcessBy is_user is_own_group is_group are_groups image.os image.config) before.process after.process (process_twice is_user is_own_group is_group are_groups image.os image.config) h.process;
    mounts = mounts_twice volume (texts_of (option_and_then (λ (c : Config). c.volumes) image.config)) (mounts_of before.mounts) (mounts_of after.mounts) h.mounts;
    annotations = λ key. either_twice (label_of image.config key) (value_of (implied image) key) (look_in before.annotations key) (look_in after.annotations key) (h.annotations key);
    others = refl;
  }

  pub said_by : (image : ImageConfiguration) (volume : Option Mount) (before after : Spec) → Converts is_user is_own_group is_group are_groups image volume before after → (key value : List ℕ) → look_in after.annotations key ≡ Some value
      → (label_of image.config key ≡ Some value) ⊎ ((value_of (implied image) key ≡ Some value) ⊎ (look_in before.annotations key ≡ Some value))
  said_by image volume before after h key value e = said_by_one (label_of image.config key) (value_of (implied image) key) (look_in before.annotations key) (look_in after.annotations key) value (h.annotations key) e
