-- What a walk over a tape makes, and what a walk over a value writes.
use Rattle.std.specs.Prelude.{Bool, Result, IfOk, IfSome, IsTrue, Option}
use Rattle.serde_json.specs.Data.{Data}
use Rattle.serde_json.specs.View.{view}
use Rattle.serde_json.specs.declared.value.Value.{Value}

-- the data of the value that was made, if one was
abbrev pub IfMade : {E : Type 0} → Result (Option Value) E → (Data → Type 0) → Type 0
IfMade r P = IfOk r (λ o. IfSome o (λ v. P (view v)))

-- what was done, if it was done
abbrev pub IfDone : {E : Type 0} → Result Bool E → Type 0 → Type 0
IfDone r P = IfOk r (λ done. IsTrue done → P)
