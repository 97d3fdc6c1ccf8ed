-- What is a date and time is decided at its marks.
use Rattle.std.proofs.Common.{◌<◌, ◌≡◌, ◌≢◌, ℕ, ◌&&◌, ◌||◌, ◌⊎◌, Bool, true, false, List, [], ◌∷◌, ◌++◌, inl, inr, refl, sym, ap, ◌∙◌, subst, true≢false, lit<}
use Rattle.std.specs.Prelude.{codes, if◌then◌else◌, ◌==◌}
use Rattle.std.specs.Bool.{Decides}
use Rattle.std.specs.Char.{is_ascii_digit}
use Rattle.std.proofs.lemmas.Bool.{eq-eqb}
use Rattle.std.proofs.lemmas.Bool.Decides.{Decides-or}
use Rattle.std.proofs.lemmas.Slice.Eq.{bytes_eq-Decides}
use Rattle.oci_base.specs.Classes.{dash, colon, has, until, after, IsSomeOf}
use Rattle.oci_base.proofs.Lacks.{Lacks, lacks_in, lacks_append, both}
use Rattle.oci_base.proofs.Marks.{until_is}
use Rattle.oci_grammars.specs.DateTimes.{is_leap, days_in, IsDate, IsHourMinute, IsOffset, IsFractionOffset, IsTime, IsDateTime}
use Rattle.oci_grammars.specs.Decided.{capped, is_some_of, is_counted, is_field, is_hour_minute, is_offset, is_fraction_offset, is_time, is_date, is_date_time}
use Rattle.oci_grammars.specs.Numbers.{number_of, IsField}
use Rattle.oci_grammars.specs.Parts.{IsCounted, IsRun}
use Rattle.oci_grammars.proofs.Deciding.{Tells, Stops, also, cases, some_tells, counted_tells, pair_tells, behind_tells, run_tells}
use Rattle.oci_grammars.proofs.Numerals.{field_tells, four_digits, two_digits}

field_lacks : (mark count low high : ℕ) → is_ascii_digit mark ≡ false → (t : List ℕ) → IsField count low high t → Lacks mark t
field_lacks mark count low high out t h = lacks_in is_ascii_digit mark out t h.0.0

-- ---- the time

hour_minute_tells : Tells is_hour_minute IsHourMinute
hour_minute_tells =
    pair_tells colon (is_field 2 0 23) (is_field 2 0 59) (IsField 2 0 23) (IsField 2 0 59) (field_tells 2 0 23 (lit< tt) (lit< tt)) (field_tells 2 0 59 (lit< tt) (lit< tt))
    (field_lacks colon 2 0 23 refl) refl

offset_tells : Tells is_offset IsOffset
unfolding is_offset
offset_tells t =
    Decides-or _ _ (Decides-or _ _ (bytes_eq-Decides t (codes "Z")) (bytes_eq-Decides t (codes "z")))
    (Decides-or _ _ (behind_tells is_hour_minute IsHourMinute hour_minute_tells (codes "+") t) (behind_tells is_hour_minute IsHourMinute hour_minute_tells (codes "-") t))

offset_stops : (t : List ℕ) → IsOffset t → Stops is_ascii_digit t
offset_stops t (inl (inl e)) = subst (Stops is_ascii_digit) (sym e) refl
offset_stops t (inl (inr e)) = subst (Stops is_ascii_digit) (sym e) refl
offset_stops t (inr (inl h)) = subst (Stops is_ascii_digit) (sym h.spelled) refl
offset_stops t (inr (inr h)) = subst (Stops is_ascii_digit) (sym h.spelled) refl

fraction_tells : Tells is_fraction_offset IsFractionOffset
unfolding is_fraction_offset
fraction_tells t =
    Decides-or _ _ (offset_tells t)
    (behind_tells _ (IsRun (IsSomeOf is_ascii_digit) IsOffset)
    (run_tells is_ascii_digit (is_some_of is_ascii_digit) is_offset (IsSomeOf is_ascii_digit) IsOffset (some_tells is_ascii_digit) offset_tells (λ x h. h.1) offset_stops)
    (codes ".") t)

fraction_stops : (t : List ℕ) → IsFractionOffset t → Stops is_ascii_digit t
fraction_stops t (inl h) = offset_stops t h
fraction_stops t (inr h) = subst (Stops is_ascii_digit) (sym h.spelled) refl

time_tells : Tells is_time IsTime
unfolding is_time
time_tells =
    pair_tells colon (is_field 2 0 23) _ (IsField 2 0 23) _ (field_tells 2 0 23 (lit< tt) (lit< tt))
    (pair_tells colon (is_field 2 0 59) _ (IsField 2 0 59) _ (field_tells 2 0 59 (lit< tt) (lit< tt))
    (run_tells is_ascii_digit (is_field 2 0 60) is_fraction_offset (IsField 2 0 60) IsFractionOffset (field_tells 2 0 60 (lit< tt) (lit< tt)) fraction_tells (λ x h. h.0.0) fraction_stops)
    (field_lacks colon 2 0 59 refl) refl)
    (field_lacks colon 2 0 23 refl) refl

-- ---- the date

parts_of : List ℕ → List ℕ → List ℕ → Bool
parts_of y m d = is_counted is_ascii_digit 4 y && (is_field 2 1 12 m && is_field 2 1 (days_in (capped y) (capped m)) d)

few_days : (y m : ℕ) → days_in y m < 4294967296
few_days y m = go (m == 2) (is_leap y) ((m == 4) || (m == 6) || (m == 9) || (m == 11))
  where
    go : (february leap short : Bool) → (if february then (if leap then 29 else 28) else (if short then 30 else 31)) < 4294967296
    go true true s = lit< tt
    go true false s = lit< tt
    go false l true = lit< tt
    go false l false = lit< tt

abbrev AreParts : List ℕ → List ℕ → List ℕ → Type 0
AreParts y m d = IsCounted is_ascii_digit 4 y × IsField 2 1 12 m × IsField 2 1 (days_in (number_of y) (number_of m)) d

parts_tell : (y m d : List ℕ) → Decides (parts_of y m d) (AreParts y m d)
unfolding parts_of
parts_tell y m d = (there, held)
  where
    days : IsCounted is_ascii_digit 4 y → IsField 2 1 12 m → days_in (capped y) (capped m) ≡ days_in (number_of y) (number_of m)
    days a b = ap (λ z. days_in z (capped m)) (four_digits y a) ∙ ap (λ z. days_in (number_of y) z) (two_digits m b.0)

    there : parts_of y m d ≡ true → AreParts y m d
    there e =
        let k = both _ _ e in
        let l = both _ _ k.1 in
        let a = (counted_tells is_ascii_digit 4 y).0 k.0 in
        let b = (field_tells 2 1 12 (lit< tt) (lit< tt) m).0 l.0 in
        (a, b, (field_tells 2 1 (days_in (number_of y) (number_of m)) (lit< tt) (few_days (number_of y) (number_of m)) d).0 (sym (ap (λ z. is_field 2 1 z d) (days a b)) ∙ l.1))

    held : AreParts y m d → parts_of y m d ≡ true
    held (a, b, c) =
        also _ _ ((counted_tells is_ascii_digit 4 y).1 a) (also _ _ ((field_tells 2 1 12 (lit< tt) (lit< tt) m).1 b)
        (ap (λ z. is_field 2 1 z d) (days a b) ∙ (field_tells 2 1 (days_in (number_of y) (number_of m)) (lit< tt) (few_days (number_of y) (number_of m)) d).1 c))

-- the test by the parts
by_parts : (t y m d : List ℕ) → until dash t ≡ y → until dash (after dash t) ≡ m → after dash (after dash t) ≡ d → is_date t ≡ parts_of y m d
unfolding is_date parts_of
by_parts t y m d a b c = ap (λ z. parts_of z (until dash (after dash t)) (after dash (after dash t))) a ∙ ap (λ z. parts_of y z (after dash (after dash t))) b ∙ ap (λ z. parts_of y m z) c

no_month : (y d : List ℕ) → parts_of y [] d ≡ false
unfolding parts_of
no_month y d = go (is_counted is_ascii_digit 4 y)
  where
    go : (b : Bool) → (b && false) ≡ false
    go true = refl
    go false = refl

no_day : (y m : List ℕ) → parts_of y m [] ≡ false
unfolding parts_of
no_day y m = go (is_counted is_ascii_digit 4 y) (is_field 2 1 12 m)
  where
    go : (a b : Bool) → (a && (b && false)) ≡ false
    go true true = refl
    go true false = refl
    go false b = refl

date_from : (t y m d : List ℕ) → t ≡ y ++ dash ∷ (m ++ dash ∷ d) → AreParts y m d → IsDate t
date_from t y m d e (a, b, c) = record { year = y; month = m; day = d; spelled = e; is_year = a; is_month = b; is_day = c }

date_tells : Tells is_date IsDate
date_tells t = ((λ e. there e (cases dash t)), held)
  where
    second : is_date t ≡ true → (x r : List ℕ) → t ≡ x ++ dash ∷ r → until dash t ≡ x → after dash t ≡ r
        → ((y z : List ℕ) × (r ≡ y ++ dash ∷ z) × (has dash r ≡ true) × (until dash r ≡ y) × (after dash r ≡ z)) ⊎ ((has dash r ≡ false) × (until dash r ≡ r) × (after dash r ≡ [])) → IsDate t
    second e x r s u w (inl (y, z, k, h, v, q)) =
        let is = by_parts t x y z u (ap (until dash) w ∙ v) (ap (after dash) w ∙ q) in
        date_from t x y z (s ∙ ap (λ a. x ++ dash ∷ a) k) ((parts_tell x y z).0 (sym is ∙ e))
    second e x r s u w (inr (h, v, q)) =
        let is = by_parts t x r [] u (ap (until dash) w ∙ v) (ap (after dash) w ∙ q) in
        absurd (true≢false (sym e ∙ is ∙ no_day x r))

    there : is_date t ≡ true → ((x r : List ℕ) × (t ≡ x ++ dash ∷ r) × (has dash t ≡ true) × (until dash t ≡ x) × (after dash t ≡ r)) ⊎ ((has dash t ≡ false) × (until dash t ≡ t) × (after dash t ≡ [])) → IsDate t
    there e (inl (x, r, s, h, u, w)) = second e x r s u w (cases dash r)
    there e (inr (h, u, w)) =
        let is = by_parts t t [] [] u (ap (until dash) w) (ap (after dash) w) in
        absurd (true≢false (sym e ∙ is ∙ no_month t []))

    held : IsDate t → is_date t ≡ true
    held h =
        let first = until_is dash h.year (h.month ++ dash ∷ h.day) (lacks_in is_ascii_digit dash refl h.year h.is_year.0) in
        let next = until_is dash h.month h.day (field_lacks dash 2 1 12 refl h.month h.is_month) in
        let u = ap (until dash) h.spelled ∙ first.0 in
        let w = ap (after dash) h.spelled ∙ first.1 in
        by_parts t h.year h.month h.day u (ap (until dash) w ∙ next.0) (ap (after dash) w ∙ next.1) ∙ (parts_tell h.year h.month h.day).1 (h.is_year, h.is_month, h.is_day)

-- no letter stands in a date
date_lacks : (mark : ℕ) → is_ascii_digit mark ≡ false → (dash == mark) ≡ false → (t : List ℕ) → IsDate t → Lacks mark t
date_lacks mark out off t h =
    subst (Lacks mark) (sym h.spelled)
    (lacks_append mark h.year (dash ∷ (h.month ++ dash ∷ h.day)) (lacks_in is_ascii_digit mark out h.year h.is_year.0)
    (apart, lacks_append mark h.month (dash ∷ h.day) (field_lacks mark 2 1 12 out h.month h.is_month) (apart, lacks_in is_ascii_digit mark out h.day h.is_day.0.0)))
  where
    apart : dash ≢ mark
    apart e = true≢false (sym (eq-eqb dash mark e) ∙ off)

pub date_time : Tells is_date_time IsDateTime
unfolding is_time
date_time t =
    Decides-or _ _ (pair_tells 84 is_date is_time IsDate IsTime date_tells time_tells (date_lacks 84 refl refl) refl t)
    (pair_tells 116 is_date is_time IsDate IsTime date_tells time_tells (date_lacks 116 refl refl) refl t)
