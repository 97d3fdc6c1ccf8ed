-- What a resolver is asked for where a path is not absolute.
use Rattle.std.proofs.Common.{◌≡◌, ◌⊎◌, inr, ℕ, List, false, String, string_bytes, IfOk, IfErr}
use Rattle.std.specs.declared.result.Result.{Result}
use Rattle.std.specs.declared.result.Result.TheVariants.{Ok, Err}
use Rattle.std.specs.declared.alloc.Global.{Global}
use Rattle.oci_base.specs.declared.error.OciSpecError.{OciSpecError}
use Rattle.oci_base.specs.declared.error.OciSpecError.TheVariants.{Memory}
use Rattle.oci_runtime_records.specs.Canonical.{is_absolute, joined, Resolves, Stops}

-- its answer to the path behind the folder
pub resolved : (Answers : List ℕ → List ℕ → Type 0) (bundle path folder whole : List ℕ) → is_absolute path ≡ false → Answers bundle folder → whole ≡ joined folder path
    → (r : Result (String Global) OciSpecError) → IfOk r (λ t. Answers whole (string_bytes t)) → IfOk r (λ t. Resolves Answers bundle path (string_bytes t))
resolved Answers bundle path folder whole e b w (Ok t) a = rw e (folder, b, rw (← w) a)
resolved Answers bundle path folder whole e b w (Err d) a = tt

-- its refusal of it
pub stopped : (Answers : List ℕ → List ℕ → Type 0) (Refuses : OciSpecError → List ℕ → Type 0) (bundle path folder whole : List ℕ) → is_absolute path ≡ false → Answers bundle folder → whole ≡ joined folder path
    → (r : Result (String Global) OciSpecError) → IfErr r (λ e. Refuses e whole) → IfErr r (λ e. (e ≡ Memory) ⊎ Stops Answers bundle path (Refuses e))
stopped Answers Refuses bundle path folder whole e b w (Ok t) a = tt
stopped Answers Refuses bundle path folder whole e b w (Err d) a = inr (rw e (inr (folder, b, rw (← w) a)))
