-- Dates and times (RFC 3339, section 5.6; "T" and "Z" may be lowercase; a second may be 60 at any minute).
use Rattle.std.specs.Prelude.{ℕ, ◌≡◌, ◌⊎◌, ◌==◌, ◌||◌, ◌&&◌, ◌%◌, not, Bool, List, ◌∷◌, ◌++◌, codes, if◌then◌else◌}
use Rattle.std.specs.Char.{is_ascii_digit}
use Rattle.oci_base.specs.Classes.{dash, colon, IsSomeOf}
use Rattle.oci_grammars.specs.Numbers.{number_of, IsField}
use Rattle.oci_grammars.specs.Parts.{IsCounted, IsPair, IsRun, IsBehind}

-- each fourth year, but of the hundreds each fourth alone (RFC 3339, appendix C)
abbrev pub is_leap : ℕ → Bool
is_leap year = (year % 4 == 0) && (not (year % 100 == 0) || (year % 400 == 0))

-- the days of a month (RFC 3339, section 5.7)
abbrev pub days_in : ℕ → ℕ → ℕ
days_in year month =
    if month == 2 then (if is_leap year then 29 else 28)
    else (if (month == 4) || (month == 6) || (month == 9) || (month == 11) then 30 else 31)

-- full-date = date-fullyear "-" date-month "-" date-mday
pub record IsDate (text : List ℕ) : Type 0 where
  pub year : List ℕ
  pub month : List ℕ
  pub day : List ℕ
  pub spelled : text ≡ year ++ dash ∷ (month ++ dash ∷ day)
  pub is_year : IsCounted is_ascii_digit 4 year
  pub is_month : IsField 2 1 12 month
  pub is_day : IsField 2 1 (days_in (number_of year) (number_of month)) day

-- time-hour ":" time-minute
abbrev pub IsHourMinute : List ℕ → Type 0
IsHourMinute text = IsPair colon (IsField 2 0 23) (IsField 2 0 59) text

-- time-offset = "Z" / ("+" / "-") time-hour ":" time-minute
abbrev pub IsOffset : List ℕ → Type 0
IsOffset text = ((text ≡ codes "Z") ⊎ (text ≡ codes "z")) ⊎ (IsBehind (codes "+") IsHourMinute text ⊎ IsBehind (codes "-") IsHourMinute text)

-- [time-secfrac] time-offset, where time-secfrac = "." 1*DIGIT
abbrev pub IsFractionOffset : List ℕ → Type 0
IsFractionOffset text = IsOffset text ⊎ IsBehind (codes ".") (IsRun (IsSomeOf is_ascii_digit) IsOffset) text

-- full-time = time-hour ":" time-minute ":" time-second [time-secfrac] time-offset
abbrev pub IsTime : List ℕ → Type 0
IsTime text = IsPair colon (IsField 2 0 23) (IsPair colon (IsField 2 0 59) (IsRun (IsField 2 0 60) IsFractionOffset)) text

-- date-time = full-date "T" full-time
abbrev pub IsDateTime : List ℕ → Type 0
IsDateTime text = IsPair 84 IsDate IsTime text ⊎ IsPair 116 IsDate IsTime text
