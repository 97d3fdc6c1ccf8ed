-- Texts that are cut at the first place of a byte.
use Rattle.std.proofs.Common.{◌≡◌, ◌≢◌, ℕ, ◌<◌, List, ◌∷◌, ◌++◌, length, get_or, false, sym, ap, ◌∙◌}
use Rattle.oci_base.specs.Classes.{until, has, colon}
use Rattle.oci_base.proofs.Lacks.{lacks_from}
use Rattle.oci_base.proofs.Marks.{until_is, not_cut, has_none}
use Rattle.oci_convert.specs.Users.{IsCut}

pub front_is : (c : ℕ) (t x y : List ℕ) → t ≡ x ++ c ∷ y → ((i : ℕ) → i < length x → get_or x i 0 ≢ c) → x ≡ until c t
front_is c t x y cut lacks = sym (ap (until c) cut ∙ (until_is c x y (lacks_from c x lacks)).0)

pub whole_is : (c : ℕ) (t : List ℕ) → ((i : ℕ) → i < length t → get_or t i 0 ≢ c) → t ≡ until c t
whole_is c t lacks = sym (not_cut c t (lacks_from c t lacks)).0

pub cut_at_colon : (t x y : List ℕ) → t ≡ x ++ colon ∷ y → ((i : ℕ) → i < length x → get_or x i 0 ≢ colon) → IsCut t x y
cut_at_colon t x y cut lacks = record { spelled = cut; is_first = has_none colon x (lacks_from colon x lacks) }

pub no_colon : (t : List ℕ) → ((i : ℕ) → i < length t → get_or t i 0 ≢ colon) → has colon t ≡ false
no_colon t lacks = has_none colon t (lacks_from colon t lacks)
