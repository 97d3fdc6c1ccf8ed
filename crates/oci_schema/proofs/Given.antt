-- What is found under a member's name or its alias.
use Rattle.std.proofs.Common.{◌≡◌, ap, ◌∙◌, sym, Bool, true, Option, Some, None, Result, Ok, Err}
use Rattle.std.specs.Prelude.{OnOk}
use Rattle.serde_json.specs.Data.{Data}
use Rattle.oci_model.specs.Shape.{Presence}
use Rattle.oci_schema.specs.Allows.{member_allowed, either_allowed}
use Rattle.oci_schema.specs.Normalized.{chosen, is_one_there}

pub one_allowed : (presence : Presence) (f : Data → Bool) (a b o : Option Data) (t : Bool) → is_one_there a b ≡ true → o ≡ chosen a b → member_allowed presence f o ≡ t → either_allowed presence f a b ≡ t
one_allowed presence f a None o t e is h = ap (member_allowed presence f) (sym is) ∙ h
one_allowed presence f None (Some d) o t e is h = ap (member_allowed presence f) (sym is) ∙ h
one_allowed presence f (Some c) (Some d) o t e is h = cc

-- where a call ends well
pub ends : {T : Type 0} {E : Type 0} (r : Result T E) (P : Type 0) → P → OnOk r P
ends (Ok x) P p = p
ends (Err e) P p = tt
