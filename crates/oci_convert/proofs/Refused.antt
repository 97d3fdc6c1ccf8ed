-- No input is both converted and refused.
use Rattle.std.proofs.Common.{◌≡◌, ℕ, List, Option, Some, None, refl}
use Rattle.std.specs.Prelude.{IsNone, IsSomeAnd}
use Rattle.oci_image.specs.declared.image_configuration.ImageConfiguration.{ImageConfiguration}
use Rattle.oci_process.specs.declared.process.Process.{Process}
use Rattle.oci_runtime_records.specs.declared.mount.Mount.{Mount}
use Rattle.oci_runtime.specs.declared.spec.Spec.{Spec}
use Rattle.oci_convert.specs.declared.error.ConvertError.{ConvertError}
use Rattle.oci_convert.specs.declared.error.ConvertError.TheVariants.{NoProcess, UnknownUser, UnknownGroup, NoId, Memory}
use Rattle.oci_convert.specs.Processes.{ProcessBy}
use Rattle.oci_convert.specs.Refuses.{Refuses}
use Rattle.oci_convert.specs.Converts.{Converts}
use Rattle.oci_convert.proofs.Decided.{not_process}

both_some : {X : Type 0} (P : X → X → Type 0) (o r : Option X) → ((p q : X) → P p q → ⊥) → IsSomeAnd o (λ p. IsSomeAnd r (λ q. P p q)) → ⊥
both_some P None r never h = h
both_some P (Some p) None never h = h
both_some P (Some p) (Some q) never h = never p q h

some : {X : Type 0} (P : X → Type 0) (o : Option X) → IsSomeAnd o P → IsNone o → ⊥
some P None h n = h
some P (Some x) h n = cc n

module _ (is_user : List ℕ → ℕ → ℕ → Type 0) (is_own_group : ℕ → ℕ → Type 0) (is_group : List ℕ → ℕ → Type 0) (are_groups : List ℕ → List ℕ → Type 0) where
  pub not_refused : (image : ImageConfiguration) (volume : Option Mount) (before after : Spec) (e : ConvertError) → Converts is_user is_own_group is_group are_groups image volume before after → Refuses is_user is_group image before.process e → e ≡ Memory
  not_refused image volume before after Memory h r = refl
  not_refused image volume before after NoProcess h r = absurd (some (λ (p : Process). IsSomeAnd after.process (λ q. ProcessBy is_user is_own_group is_group are_groups image.os image.config p q)) before.process h.process r)
  not_refused image volume before after UnknownUser h r = absurd (both_some (ProcessBy is_user is_own_group is_group are_groups image.os image.config) before.process after.process (λ p q k. not_process is_user is_own_group is_group are_groups image.os image.config p q UnknownUser k r) h.process)
  not_refused image volume before after UnknownGroup h r = absurd (both_some (ProcessBy is_user is_own_group is_group are_groups image.os image.config) before.process after.process (λ p q k. not_process is_user is_own_group is_group are_groups image.os image.config p q UnknownGroup k r) h.process)
  not_refused image volume before after NoId h r = absurd (both_some (ProcessBy is_user is_own_group is_group are_groups image.os image.config) before.process after.process (λ p q k. not_process is_user is_own_group is_group are_groups image.os image.config p q NoId k r) h.process)
