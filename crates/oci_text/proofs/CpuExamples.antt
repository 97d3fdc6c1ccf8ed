-- Worked lists of processors, and texts that are none.
use Rattle.std.proofs.Common.{◌≡◌, ℕ, List, [], ◌∷◌, ◌++◌, Bool, true, false, codes, inl, inr, refl, subst, sym, true≢false, arith}
use Rattle.std.specs.Char.{is_ascii_digit}
use Rattle.std.specs.List.{list_all}
use Rattle.oci_base.specs.Classes.{IsSomeOf, one, more}
use Rattle.oci_base.specs.CpuList.{IsCpuRange, IsCpuItem, IsCpuList}
use Rattle.oci_base.proofs.Lacks.{both}

-- a range and a number
pub range_and_number : IsCpuList (codes "0-3,7")
range_and_number = more (codes "0-3") (codes ",") (codes "7")
    (one (codes "0-3") (inr (record { low = codes "0"; high = codes "3"; is_low = (omega arith, refl); is_high = (omega arith, refl); spelled = refl })))
    refl (inl (omega arith, refl))

-- a range that counts down
pub counts_down : IsCpuList (codes "3-1")
counts_down = one (codes "3-1") (inr (record { low = codes "3"; high = codes "1"; is_low = (omega arith, refl); is_high = (omega arith, refl); spelled = refl }))

-- ---- each list ends with a digit

abbrev ends : List ℕ → Bool
ends [] = false
ends (b ∷ []) = is_ascii_digit b
ends (b ∷ (c ∷ text)) = ends (c ∷ text)

ends_behind : (b : ℕ) (text : List ℕ) → ends text ≡ true → ends (b ∷ text) ≡ true
ends_behind b [] h = absurd (true≢false (sym h))
ends_behind b (c ∷ text) h = h

ends_append : (front text : List ℕ) → ends text ≡ true → ends (front ++ text) ≡ true
ends_append [] text h = h
ends_append (b ∷ front) text h = ends_behind b (front ++ text) (ends_append front text h)

digits_end : (text : List ℕ) → IsSomeOf is_ascii_digit text → ends text ≡ true
digits_end [] h = absurd (omega (arith, h.0))
digits_end (b ∷ []) h = (both (is_ascii_digit b) (list_all is_ascii_digit []) h.1).0
digits_end (b ∷ (c ∷ text)) h = digits_end (c ∷ text) (omega arith, (both (is_ascii_digit b) (list_all is_ascii_digit (c ∷ text)) h.1).1)

range_ends : (text : List ℕ) → IsCpuRange text → ends text ≡ true
range_ends text h = subst (λ t. ends t ≡ true) (sym h.spelled) (ends_append h.low (45 ∷ h.high) (ends_behind 45 h.high (digits_end h.high h.is_high)))

item_ends : (text : List ℕ) → IsCpuItem text → ends text ≡ true
item_ends text (inl h) = digits_end text h
item_ends text (inr h) = range_ends text h

list_ends : (text : List ℕ) → IsCpuList text → ends text ≡ true
list_ends text (one part h) = item_ends text h
list_ends _ (more text separator part j h k) = ends_append (text ++ separator) part (item_ends part k)

-- so no list is open
pub open_range : ¬ IsCpuList (codes "0-")
open_range h = true≢false (sym (list_ends (codes "0-") h))

-- nor empty
pub no_text : ¬ IsCpuList []
no_text h = true≢false (sym (list_ends [] h))
