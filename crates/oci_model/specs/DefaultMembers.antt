-- Members that mean a default where they are absent are well formed.
use Rattle.std.specs.Prelude.{◌≤ℤ◌, ℤ, List, ℕ, Bool, IsTrue, refl}
use Rattle.oci_base.specs.Names.{is_listed}
use Rattle.oci_model.specs.Plain as plain
use Rattle.oci_model.specs.Plain.{no_plains}
use Rattle.oci_model.specs.Shape.{Shape, defaulted, text, truth, whole, named, list}
use Rattle.oci_model.specs.WellFormed.{MemberIsWellFormed}

-- a truth value
pub default_truth : (b : Bool) (W : Type 0) → W → MemberIsWellFormed (defaulted (plain.truth b)) truth W
default_truth b W w = (w, (b, refl), tt, refl)

-- a text
pub default_text : (t : List ℕ) (W : Type 0) → W → MemberIsWellFormed (defaulted (plain.text t)) text W
default_text t W w = (w, (t, refl), tt, refl)

-- an empty list
pub default_list : (s : Shape) (W : Type 0) → W → MemberIsWellFormed (defaulted (plain.list no_plains)) (list s) W
default_list s W w = (w, (no_plains, refl, tt), tt, refl)

-- a listed variant of a closed name
pub default_name : (table : List (List ℕ)) (t : List ℕ) (W : Type 0) → W → IsTrue (is_listed table t) → MemberIsWellFormed (defaulted (plain.variant t)) (named table) W
default_name table t W w is = (w, (t, refl, is), tt, refl)

-- a whole number in the range
pub default_number : (low high z : ℤ) (W : Type 0) → W → low ≤ℤ z → z ≤ℤ high → MemberIsWellFormed (defaulted (plain.whole z)) (whole low high) W
default_number low high z W w l h = (w, (z, refl, l, h), tt, refl)
