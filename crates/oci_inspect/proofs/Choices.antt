-- Candidates, of which none is meant.
use Rattle.std.specs.Prelude.{◌≡◌, ℕ, List, false, Option, Some, Result, Ok, Err, IfErr, refl}
use Rattle.std.proofs.Common.{subst, sym}
use Rattle.oci_descriptor.specs.declared.descriptor.Descriptor.{Descriptor}
use Rattle.oci_descriptor.specs.declared.platform.Platform.{Platform}
use Rattle.oci_inspect.specs.Found.{IsNoneBest, IsNoneMeant, is_lone}
use Rattle.oci_inspect.specs.declared.fault.FindError.{FindError}
use Rattle.oci_inspect.specs.declared.fault.FindError.TheVariants.{NoIndex, NoName, Several, NoPlatform, Content, TooDeep, Memory}

none_chosen : (depth : ℕ) (xs : List Descriptor) (p : Platform) (e : FindError) → is_lone depth xs ≡ false → IsNoneBest xs p e → IsNoneMeant (Some p) depth xs e
none_chosen depth xs p NoName lone h = h
none_chosen depth xs p NoPlatform lone h = (p, refl, lone, h)
none_chosen depth xs p Memory lone h = tt
none_chosen depth xs p (NoIndex f) lone h = absurd h
none_chosen depth xs p (Several n) lone h = absurd h
none_chosen depth xs p (Content t f) lone h = absurd h
none_chosen depth xs p TooDeep lone h = absurd h

none_chosen_of : {T : Type 0} (depth : ℕ) (xs : List Descriptor) (p : Platform) (r : Result T FindError) → is_lone depth xs ≡ false
    → IfErr r (IsNoneBest xs p) → IfErr r (IsNoneMeant (Some p) depth xs)
none_chosen_of depth xs p (Ok x) lone h = tt
none_chosen_of depth xs p (Err e) lone h = none_chosen depth xs p e lone h

pub none_best : {T : Type 0} (depth : ℕ) (xs : List Descriptor) (wanted : Option Platform) (p : Platform) (r : Result T FindError) → wanted ≡ Some p
    → is_lone depth xs ≡ false → IfErr r (IsNoneBest xs p) → IfErr r (IsNoneMeant wanted depth xs)
none_best depth xs wanted p r is lone h = subst (λ w. IfErr r (IsNoneMeant w depth xs)) (sym is) (none_chosen_of depth xs p r lone h)
