-- Numbers in digits, as they are compared.
use Rattle.std.proofs.Common.{◌≡◌, ℕ, ◌+◌, ◌-◌, ◌*◌, ◌≤◌, ◌<◌, ◌&&◌, ◌||◌, ◌⊎◌, not, Bool, true, false, List, [], ◌∷◌, ◌++◌, min, refl, sym, ap, ◌∙◌, subst, inl, inr, lit<, true≢false, arith}
use Rattle.std.specs.Prelude.{nat_le, IsTrue, codes, ◌==◌}
use Rattle.std.specs.Bool.{Decides}
use Rattle.std.specs.Char.{is_ascii_digit}
use Rattle.std.specs.List.{fold, list_all}
use Rattle.std.proofs.lemmas.Bool.Decides.{Decides-or}
use Rattle.std.proofs.lemmas.Slice.Eq.{bytes_eq-Decides}
use Rattle.std.proofs.lemmas.Bool.{eq-eqb}
use Rattle.oci_base.specs.Classes.{dash, has, until, after}
use Rattle.oci_base.proofs.Lacks.{Lacks, both, lacks_some, lacks_append}
use Rattle.oci_base.proofs.Marks.{until_is, not_cut, has_at, has_none}
use Rattle.oci_grammars.specs.Classes.{is_positive}
use Rattle.oci_grammars.specs.Decided.{capped, capped_from, is_headed, is_within, is_number, is_number_or_range, is_field, is_numeric}
use Rattle.oci_grammars.specs.Numbers.{number_of, IsNumber, IsNumberOrRange, IsField, IsNumeric, IsPlainNumber}
use Rattle.oci_grammars.specs.Parts.{IsCounted}
use Rattle.oci_grammars.proofs.Deciding.{Tells, also, cases, Decides-le, some_tells, counted_tells, headed_tells}

number_from : ℕ → List ℕ → ℕ
number_from n digits = fold (λ n b. n * 10 + (b - 48)) n digits

-- what a number is cut to
abbrev past : ℕ
past = 4294967296

step_capped : (cap n d : ℕ) → min (min n cap * 10 + d) cap ≡ min (n * 10 + d) cap
step_capped cap n d = omega arith

capped_is : (n : ℕ) (t : List ℕ) → capped_from (min n past) t ≡ min (number_from n t) past
unfolding number_from
capped_is n [] = refl
capped_is n (b ∷ t) = ap (λ m. capped_from m t) (step_capped past n (b - 48)) ∙ capped_is (n * 10 + (b - 48)) t

pub capped_number : (t : List ℕ) → capped t ≡ min (number_of t) past
unfolding capped number_from
capped_number t = capped_is 0 t

low_is : (cap n : ℕ) → n < cap → min n cap ≡ n
low_is cap n h = omega arith

-- a number that is not cut
pub capped_below : (high : ℕ) → high < past → (t : List ℕ) → number_of t ≤ high → capped t ≡ number_of t
capped_below high small t h = capped_number t ∙ low_is past (number_of t) (below high past (number_of t) small h)
  where
    below : (high cap n : ℕ) → high < cap → n ≤ high → n < cap
    below high cap n small h = omega arith

-- bounds below the cut
within : (cap low high n : ℕ) → low < cap → high < cap → Decides (is_within low high (min n cap)) ((low ≤ n) × (n ≤ high))
within cap low high n small few = (
  (λ e.
      let parts = both _ _ e in
      let least = (Decides-le low (min n cap)).0 parts.0 in
      let most = (Decides-le (min n cap) high).0 parts.1 in
      (omega arith, omega arith)),
  (λ h. also _ _ ((Decides-le low (min n cap)).1 (omega (arith, h.0))) ((Decides-le (min n cap) high).1 (omega (arith, h.1)))),
)

bounded : (low high : ℕ) → low < past → high < past → (t : List ℕ) → Decides (is_within low high (capped t)) ((low ≤ number_of t) × (number_of t ≤ high))
bounded low high small few t = subst (λ n. Decides (is_within low high n) ((low ≤ number_of t) × (number_of t ≤ high))) (sym (capped_number t)) (within past low high (number_of t) small few)

at_most : (high : ℕ) → high < past → (t : List ℕ) → Decides (nat_le (capped t) high) (number_of t ≤ high)
at_most high few t = subst (λ n. Decides (nat_le n high) (number_of t ≤ high)) (sym (capped_number t)) (below past (number_of t) few)
  where
    below : (cap n : ℕ) → high < cap → Decides (nat_le (min n cap) high) (n ≤ high)
    below cap n few =
        let size = Decides-le (min n cap) high in
        ((λ e. let most = size.0 e in omega arith), (λ h. size.1 (omega (arith, h))))

pub number_tells : (low high : ℕ) → low < past → high < past → Tells (is_number low high) (IsNumber low high)
number_tells low high small few t =
    let digits = some_tells is_ascii_digit t in
    let size = bounded low high small few t in
    ((λ e. let parts = both _ _ e in let k = size.0 parts.1 in (digits.0 parts.0, k.0, k.1)), (λ h. also _ _ (digits.1 h.0) (size.1 (h.1, h.2))))

pub field_tells : (count low high : ℕ) → low < past → high < past → Tells (is_field count low high) (IsField count low high)
field_tells count low high small few t =
    let digits = counted_tells is_ascii_digit count t in
    let size = bounded low high small few t in
    ((λ e. let parts = both _ _ e in let k = size.0 parts.1 in (digits.0 parts.0, k.0, k.1)), (λ h. also _ _ (digits.1 h.0) (size.1 (h.1, h.2))))

-- a number without a zero in front, and a greatest one below the cut
pub plain_at_most : (high : ℕ) → high < past → Tells (λ t. is_headed is_positive is_ascii_digit t && nat_le (capped t) high) (λ t. IsPlainNumber t × (number_of t ≤ high))
plain_at_most high few t =
    let digits = headed_tells is_positive is_ascii_digit t in
    let size = at_most high few t in
    ((λ e. let parts = both _ _ e in (digits.0 parts.0, size.0 parts.1)), (λ h. also _ _ (digits.1 h.0) (size.1 h.1)))

-- two numbers in ascending order
pub ascending_tells : (high : ℕ) → high < past → (x y : List ℕ) → number_of x ≤ high → number_of y ≤ high → Decides (nat_le (capped x) (capped y)) (number_of x ≤ number_of y)
ascending_tells high few x y h k =
    subst (λ m. Decides (nat_le m (capped y)) (number_of x ≤ number_of y)) (sym (capped_below high few x h))
    (subst (λ m. Decides (nat_le (number_of x) m) (number_of x ≤ number_of y)) (sym (capped_below high few y k)) (Decides-le (number_of x) (number_of y)))

pub number_lacks : (mark low high : ℕ) → is_ascii_digit mark ≡ false → (x : List ℕ) → IsNumber low high x → Lacks mark x
number_lacks mark low high out x h = lacks_some is_ascii_digit mark out x h.0

pub range_lacks : (mark low high : ℕ) → is_ascii_digit mark ≡ false → (dash == mark) ≡ false → (x : List ℕ) → IsNumberOrRange low high x → Lacks mark x
range_lacks mark low high out off x (inl h) = number_lacks mark low high out x h
range_lacks mark low high out off x (inr h) =
    subst (Lacks mark) (sym h.spelled)
    (lacks_append mark h.first (dash ∷ h.last) (number_lacks mark low high out h.first h.is_first)
    ((λ e. true≢false (sym (eq-eqb dash mark e) ∙ off)), number_lacks mark low high out h.last h.is_last))

module _ (low high : ℕ) (small : low < past) (few : high < past) where
  tells : Tells (is_number low high) (IsNumber low high)
  tells = number_tells low high small few

  abbrev behind : List ℕ → Bool
  behind t = is_number low high (after dash t) && nat_le (capped (until dash t)) (capped (after dash t))

  free : (x : List ℕ) → IsNumber low high x → Lacks dash x
  free = number_lacks dash low high refl

  there : (t : List ℕ) → ((x y : List ℕ) × (t ≡ x ++ dash ∷ y) × (has dash t ≡ true) × (until dash t ≡ x) × (after dash t ≡ y))
      ⊎ ((has dash t ≡ false) × (until dash t ≡ t) × (after dash t ≡ [])) → is_number_or_range low high t ≡ true → IsNumberOrRange low high t
  there t (inl (x, y, e, h, u, w)) k =
      let parts = both _ _ k in
      let ends = both _ _ (sym (ap (λ z. not z || behind t) h) ∙ parts.1) in
      let first = (tells x).0 (sym (ap (is_number low high) u) ∙ parts.0) in
      let last = (tells y).0 (sym (ap (is_number low high) w) ∙ ends.0) in
      let order : nat_le (capped x) (capped y) ≡ true = sym (ap (λ z. nat_le (capped z) (capped (after dash t))) u ∙ ap (λ z. nat_le (capped x) (capped z)) w) ∙ ends.1 in
      inr (record { first = x; last = y; spelled = e; is_first = first; is_last = last; ascending = (ascending_tells high few x y first.2 last.2).0 order })
  there t (inr (h, u, w)) k = inl ((tells t).0 (sym (ap (is_number low high) u) ∙ (both _ _ k).0))

  held : (t : List ℕ) → IsNumberOrRange low high t → is_number_or_range low high t ≡ true
  held t (inl h) =
      let lacks = free t h in
      also _ _ (ap (is_number low high) (not_cut dash t lacks).0 ∙ (tells t).1 h) (ap (λ z. not z || behind t) (has_none dash t lacks))
  held t (inr h) =
      let cut = until_is dash h.first h.last (free h.first h.is_first) in
      let front : until dash t ≡ h.first = ap (until dash) h.spelled ∙ cut.0 in
      let back : after dash t ≡ h.last = ap (after dash) h.spelled ∙ cut.1 in
      let there : has dash t ≡ true = ap (has dash) h.spelled ∙ has_at dash h.first h.last in
      let order : nat_le (capped (until dash t)) (capped (after dash t)) ≡ true =
      ap (λ z. nat_le (capped z) (capped (after dash t))) front ∙ ap (λ z. nat_le (capped h.first) (capped z)) back
      ∙ (ascending_tells high few h.first h.last h.is_first.2 h.is_last.2).1 h.ascending in
      also _ _ (ap (is_number low high) front ∙ (tells h.first).1 h.is_first)
      (ap (λ z. not z || behind t) there ∙ also _ _ (ap (is_number low high) back ∙ (tells h.last).1 h.is_last) order)

  pub number_or_range_tells : Tells (is_number_or_range low high) (IsNumberOrRange low high)
  number_or_range_tells t = (there t (cases dash t), held t)

pub numeric_tells : Tells is_numeric IsNumeric
numeric_tells t = Decides-or _ _ (bytes_eq-Decides t (codes "0")) (headed_tells is_positive is_ascii_digit t)

-- four digits write a number below 10,000
digit_small : (b : ℕ) → IsTrue (is_ascii_digit b) → b - 48 ≤ 9
digit_small b h = let parts = both (nat_le 48 b) (nat_le b 57) h in let most = (Decides-le b 57).0 parts.1 in omega arith

pub four_digits : (t : List ℕ) → IsCounted is_ascii_digit 4 t → capped t ≡ number_of t
four_digits t h = capped_below 9999 (lit< tt) t (small t h)
  where
    small : (t : List ℕ) → IsCounted is_ascii_digit 4 t → number_of t ≤ 9999
    small [] h = absurd (omega (arith, h.1))
    small (a ∷ []) h = absurd (omega (arith, h.1))
    small (a ∷ b ∷ []) h = absurd (omega (arith, h.1))
    small (a ∷ b ∷ c ∷ []) h = absurd (omega (arith, h.1))
    small (a ∷ b ∷ c ∷ d ∷ []) h =
        let k = both (is_ascii_digit a) (list_all is_ascii_digit (b ∷ c ∷ d ∷ [])) h.0 in
        let m = both (is_ascii_digit b) (list_all is_ascii_digit (c ∷ d ∷ [])) k.1 in
        let n = both (is_ascii_digit c) (list_all is_ascii_digit (d ∷ [])) m.1 in
        let o = both (is_ascii_digit d) true n.1 in
        omega (arith, digit_small a k.0, digit_small b m.0, digit_small c n.0, digit_small d o.0)
    small (a ∷ b ∷ c ∷ d ∷ e ∷ t) h = absurd (omega (arith, h.1))

pub two_digits : (t : List ℕ) → IsCounted is_ascii_digit 2 t → capped t ≡ number_of t
two_digits t h = capped_below 99 (lit< tt) t (small t h)
  where
    small : (t : List ℕ) → IsCounted is_ascii_digit 2 t → number_of t ≤ 99
    small [] h = absurd (omega (arith, h.1))
    small (a ∷ []) h = absurd (omega (arith, h.1))
    small (a ∷ b ∷ []) h =
        let k = both (is_ascii_digit a) (list_all is_ascii_digit (b ∷ [])) h.0 in
        let m = both (is_ascii_digit b) true k.1 in
        omega (arith, digit_small a k.0, digit_small b m.0)
    small (a ∷ b ∷ c ∷ t) h = absurd (omega (arith, h.1))
