-- A list that is not empty.
use Rattle.std.proofs.Common.{◌≡◌, List, [], ◌∷◌, Some, false, length, refl, map}
use Rattle.std.specs.Prelude.{◌==◌}
use Rattle.oci_model.specs.Plain as plain
use Rattle.oci_model.specs.Plain.{Plain, filled, plains}
use Rattle.oci_model.specs.Shape.{unless_empty, Shape, list}
use Rattle.oci_model.specs.Value.{value, member_value}

-- it is written
pub written : (s : Shape) {T : Type 0} (f : T → Plain) (xs : List T) → (length xs == 0) ≡ false
    → member_value unless_empty (value (list s)) (filled (plain.list (plains (map f xs)))) ≡ Some (value (list s) (plain.list (plains (map f xs))))
written s f [] h = cc
written s f (x ∷ xs) h = refl
