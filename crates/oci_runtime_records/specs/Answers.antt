-- What a resolver of paths answered.
use Rattle.std.specs.Prelude.{◌≡◌, ℕ, List, String, string_bytes}
use Rattle.std.specs.declared.result.Result.{Result}
use Rattle.std.specs.declared.result.Result.TheVariants.{Ok, Err}
use Rattle.std.specs.declared.alloc.Global.{Global}
use Rattle.oci_base.specs.declared.error.OciSpecError.{OciSpecError}

-- this text
abbrev pub GivesText : Result (String Global) OciSpecError → List ℕ → Type 0
GivesText (Ok s) t = string_bytes s ≡ t
GivesText (Err e) t = ⊥

-- this refusal
abbrev pub GivesError : Result (String Global) OciSpecError → OciSpecError → Type 0
GivesError (Ok s) e = ⊥
GivesError (Err d) e = d ≡ e

-- a resolver, of whose calls this is known, answered this for a path
abbrev pub Answered : {R T : Type 0} → (List ℕ → R → Type 0) → (R → T → Type 0) → List ℕ → T → Type 0
Answered {R} Returns gives path told = (r : R) × Returns path r × gives r told
