-- What is said of each error holds where memory is the only one.
use Rattle.std.proofs.Common.{◌≡◌, ℕ, List, Result, Ok, Err, refl, sym, subst, inr}
use Rattle.std.specs.Prelude.{Option, Some, None}
use Rattle.std.specs.Result.{IfErr, IsErrAnd}
use Rattle.oci_base.specs.Refused.{Refuses}
use Rattle.oci_base.specs.declared.error.OciSpecError.{OciSpecError}
use Rattle.oci_base.specs.declared.error.OciSpecError.TheVariants.{Memory}

-- at the exit of a `?`
pub at_exit : {T : Type 0} (P : OciSpecError → Type 0) (r : Result T OciSpecError) → P Memory → IsErrAnd r (λ e. e ≡ Memory) → IfErr r P
at_exit P (Ok x) h is = tt
at_exit P (Err e) h is = let same : e ≡ Memory = is in subst P (sym same) h

-- of a call's answer
pub of_answer : {T : Type 0} (P : OciSpecError → Type 0) (r : Result T OciSpecError) → P Memory → IfErr r (λ e. e ≡ Memory) → IfErr r P
of_answer P (Ok x) h told = tt
of_answer P (Err e) h told = let same : e ≡ Memory = told in subst P (sym same) h

-- whatever the reason is
pub refuses : (reason : Option (List ℕ)) → Refuses reason Memory
refuses None = refl
refuses (Some t) = inr refl
