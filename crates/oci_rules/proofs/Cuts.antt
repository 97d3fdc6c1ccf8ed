-- A text that is cut at its first mark.
use Rattle.std.proofs.Common.{◌≡◌, ◌≢◌, ℕ, ◌<◌, List, ◌∷◌, ◌++◌, length, get_or, sym, ap, ◌∙◌}
use Rattle.oci_base.specs.Classes.{until}
use Rattle.oci_base.proofs.Lacks.{lacks_from}
use Rattle.oci_base.proofs.Marks.{until_is, not_cut}

pub front_is : (mark : ℕ) (t x y : List ℕ) → t ≡ x ++ mark ∷ y → ((i : ℕ) → i < length x → get_or x i 0 ≢ mark) → x ≡ until mark t
front_is mark t x y cut lacks = sym (ap (until mark) cut ∙ (until_is mark x y (lacks_from mark x lacks)).0)

pub whole_is : (mark : ℕ) (t : List ℕ) → ((i : ℕ) → i < length t → get_or t i 0 ≢ mark) → t ≡ until mark t
whole_is mark t lacks = sym (not_cut mark t (lacks_from mark t lacks)).0
