-- At the exit of a `?`.
use Rattle.std.proofs.Common.{◌≡◌, sym, subst, Result, Ok, Err}
use Rattle.std.specs.Prelude.{IfErr}
use Rattle.std.specs.Result.{IsErrAnd}

-- what holds of the error
pub handed_on : {T : Type 0} {E : Type 0} (r : Result T E) (e : E) (Q : E → Type 0) → IsErrAnd r (λ y. y ≡ e) → Q e → IfErr r Q
handed_on (Ok x) e Q is_err q = tt
handed_on (Err y) e Q is_err q = subst Q (sym is_err) q
