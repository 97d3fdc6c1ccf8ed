-- Texts of digits: what their test tells, and that they are UTF-8.
use Rattle.std.proofs.Common.{◌≡◌, ℕ, zero, suc, ◌<◌, Bool, true, false, List, length, get_or, sym, ◌∙◌, arith, rules}
use Rattle.std.specs.Prelude.{IsTrue, ◌↔◌, ◌==◌}
use Rattle.std.specs.Char.{is_ascii_digit}
use Rattle.std.specs.Int.{IsInRange}
use Rattle.std.specs.List.{list_all}
use Rattle.std.specs.Str.{IsUtf8}
use Rattle.std.specs.Str.Parse.{digits_value}
use Rattle.std.proofs.lemmas.Str.{IsUtf8-from_ascii}
use Rattle.std.proofs.lemmas.Str.Ascii.{IsAscii-from_reads}
use Rattle.std.proofs.lemmas.Str.Parse.{IsDigitsTest, IsNumeralModel, numerals_by_value, digit_at}
use Rattle.oci_accounts.specs.Ids.{IsDigits, IsId}

tests_digits : IsDigitsTest (λ t. list_all is_ascii_digit t ≡ true)
tests_digits = search rules

model : IsNumeralModel (λ t. list_all is_ascii_digit t ≡ true) (digits_value 10)
model = numerals_by_value (λ t. list_all is_ascii_digit t ≡ true) tests_digits

positive : (n : ℕ) → (n == 0) ≡ false → 0 < n
positive zero h = cc h
positive (suc n) h = omega arith

pub digits_told : (t : List ℕ) (r : Bool) → r ≡ list_all is_ascii_digit t → (length t == 0) ≡ false → IsTrue r ↔ IsDigits t
digits_told t r e some = ((λ is. (positive (length t) some, model.to t (sym e ∙ is))), (λ h. e ∙ model.from t h.1))

pub digits_utf8 : (t : List ℕ) → IsDigits t → IsUtf8 t
digits_utf8 t h = IsUtf8-from_ascii t (IsAscii-from_reads t (length t) (omega arith) (λ k lt. small k (digit_at t k h.1 lt)))
  where
    small : (k : ℕ) → IsInRange 48 57 (get_or t k 0) → get_or t k 0 < 128
    small k r = omega (arith, r.0, r.1)

-- digits write one number
pub same_id : (t : List ℕ) (m n : ℕ) → IsId t m → IsId t n → m ≡ n
same_id t m n h k = sym h.number ∙ k.number
