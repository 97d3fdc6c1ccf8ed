-- The answers of several calls that are put together, as try_join2 to try_join5 do: what is known of each that is not refused.
use Rattle.std.proofs.Common.{◌≡◌, Result, Ok, subst}
use Rattle.std.specs.Result.{IfOk}
use Rattle.oci_base.specs.declared.error.OciSpecError.{OciSpecError}

-- an answer of the library's
abbrev pub Answer : Type 0 → Type 0
Answer T = Result T OciSpecError

-- what a call that is not refused says of its answer
pub answered : {T : Type 0} (P : T → Type 0) (r : Answer T) (x : T) → r ≡ Ok x → IfOk r P → P x
answered P r x is known = subst (λ q. IfOk q P) is known
