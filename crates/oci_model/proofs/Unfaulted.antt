-- What is known of an object that is written without an error.
use Rattle.std.proofs.Common.{◌≡◌, Ok, Err, Result, Option, Some, None, inl, inr, ◌∙◌}
use Rattle.std.specs.Prelude.{◌⊎◌}
use Rattle.std.specs.Result.{IfOk, IfErr}
use Rattle.serde_json.specs.Data.{Data}
use Rattle.serde_json.specs.View.{view}
use Rattle.serde_json.specs.declared.value.Value.{Value}
use Rattle.oci_base.specs.Refused.{IsSchema}
use Rattle.oci_base.specs.declared.error.OciSpecError.{OciSpecError}

-- what holds without an error holds of what is returned
pub unfaulted : (r : Result Value OciSpecError) (fault : Option OciSpecError) (d : Data) (P : Type 0)
    → IfOk r (λ v. (fault ≡ None) × (view v ≡ d)) → ((fault ≡ None) → P) → IfOk r (λ v. P)
unfaulted (Ok v) fault d P told f = f told.0
unfaulted (Err e) fault d P told f = tt

-- the returned value is what the members are without an error
pub unfaulted_view : (r : Result Value OciSpecError) (fault : Option OciSpecError) (d e : Data)
    → IfOk r (λ v. (fault ≡ None) × (view v ≡ d)) → ((fault ≡ None) → d ≡ e) → IfOk r (λ v. view v ≡ e)
unfaulted_view (Ok v) fault d e told f = told.1 ∙ f told.0
unfaulted_view (Err x) fault d e told f = tt

-- an error at the end says that the content is not serializable, if no member's error could be there with content that is
pub refused : (r : Result Value OciSpecError) (fault : Option OciSpecError) (W : Type 0)
    → IfErr r (λ e. fault ≡ Some e) → ((e : OciSpecError) → (fault ≡ Some e) → IsSchema e → W → None ≡ Some e) → IfErr r (λ e. IsSchema e → ¬ W)
refused (Ok v) fault W told f = tt
refused (Err e) fault W told f = λ h w. let no = f e told h w in cc

-- an error that is not that of a member which is serializable was there before
pub before : (old K S W : Type 0) → old ⊎ (K × (S → ¬ W)) → S → W → old
before old K S W (inl is) s w = is
before old K S W (inr told) s w = absurd (told.1 s w)
