-- That the bytes that a value was read from mean the document which the value means.
use Rattle.std.proofs.Common.{◌≡◌, ℕ, List, Option, Some, None, Result, Ok, Err, inl, inr, IfSome, IfOk}
use Rattle.serde_json.specs.Data.{Data}
use Rattle.serde_json.specs.View.{view}
use Rattle.serde_json.specs.declared.value.Value.{Value}
use Rattle.oci_model.specs.Plain.{Plain}
use Rattle.oci_model.specs.Shape.{Shape}
use Rattle.oci_model.specs.Means.{Means}
use Rattle.oci_model.specs.Value.{value}
use Rattle.oci_model.specs.Writable.{Writable}
use Rattle.oci_base.specs.Refused.{IsIo}
use Rattle.oci_base.specs.declared.error.OciSpecError.{OciSpecError}
use Rattle.oci_base.specs.declared.error.OciSpecError.TheVariants.{Other, Io, SerDe, Builder, Memory}
use Rattle.oci_json.specs.Engines.{MeansBytes, ReadsAs, IsNotNormalized, AppendsSome}
use Rattle.oci_schema.specs.Normalizes.{Normalizes}
use Rattle.oci_schema.specs.Normalized.{HasNoNormalForm}

pub bytes_mean : (s : Shape) (input : Option (List ℕ)) (d : Data) (p : Plain) → IfSome input (λ bytes. ReadsAs bytes d) → Means s d p → IfSome input (λ bytes. MeansBytes s bytes p)
bytes_mean s None d p read means = read
bytes_mean s (Some bytes) d p read means = (d, read, means)

-- the value that is written for what the bytes mean
pub normal_of : {E : Type 0} (s : Shape) (input : Option (List ℕ)) (d : Data) (r : Result Value E) → IfSome input (λ bytes. ReadsAs bytes d)
    → IfOk r (λ v. (p : Plain) × Means s d p × Writable s p × (view v ≡ value s p)) → IfOk r (λ v. (p : Plain) × IfSome input (λ bytes. MeansBytes s bytes p) × Writable s p × (view v ≡ value s p))
normal_of s input d (Ok v) read made = (made.0, bytes_mean s input d made.0 read made.1, made.2, made.3)
normal_of s input d (Err e) read made = made

-- bytes that were read as a value which has no normal form
pub not_normalized : (s : Shape) (input : Option (List ℕ)) (d : Data) → IfSome input (λ bytes. ReadsAs bytes d) → HasNoNormalForm s d → IfSome input (IsNotNormalized s)
not_normalized s None d read told = read
not_normalized s (Some bytes) d read (inl refused) = inl (d, read, refused)
not_normalized s (Some bytes) d read (inr means) = inr (means.0, (d, read, means.1), means.2)

-- after a write that failed
pub write_failed : {A : Type 0} (Writes : (List ℕ → Type 0) → Type 0) (s : Shape) (input old new : Option (List ℕ)) (e : OciSpecError) → IsIo e → Writes (AppendsSome old new)
    → Normalizes {A = A} Writes s input old new (Err e)
write_failed Writes s input old new (Io fault) is begun = record {
  ok = tt;
  json = λ h. absurd h;
  schema = λ h. absurd h;
  begun = λ h. inr begun;
  unwritten = λ h. absurd (h tt);
  kind = tt;
}
write_failed Writes s input old new (Other text) is begun = absurd is
write_failed Writes s input old new (SerDe fault) is begun = absurd is
write_failed Writes s input old new (Builder fault) is begun = absurd is
write_failed Writes s input old new Memory is begun = absurd is
