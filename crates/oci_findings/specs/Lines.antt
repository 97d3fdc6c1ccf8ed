-- What is written of findings.
use Rattle.std.specs.Prelude.{◌≡◌, ◌⊎◌, ℕ, zero, suc, List, [], ◌++◌, Option, Bool, true, false, not}
use Rattle.std.specs.Io.KnownBytes.{Appends}
use Rattle.oci_base.specs.Escaped.{IsLine}
use Rattle.oci_findings.specs.Colors.{IsColoredLine}
use Rattle.oci_findings.specs.declared.finding.Finding.{Finding}
use Rattle.oci_findings.specs.declared.finding.Severity.{Severity}
use Rattle.oci_findings.specs.declared.finding.Severity.TheVariants.{Error, Warning, Note}
use Rattle.oci_findings.specs.declared.style.Style.{Style}
use Rattle.oci_findings.specs.declared.style.Style.TheVariants.{Text, Color, Json, Sarif, Github}

-- a line with colours, or without
abbrev pub IsShownLine : Bool → List ℕ → Type 0
IsShownLine true line = IsColoredLine line
IsShownLine false line = IsLine line

-- so many lines at most, one behind the other, with colours or without: a line that equals the one before it is left out
pub data AreLines (colored : Bool) : ℕ → List ℕ → Type 0 where
  none : AreLines colored zero []
  more : {n : ℕ} {text : List ℕ} (line : List ℕ) → AreLines colored n text → IsShownLine colored line → AreLines colored (suc n) (text ++ line)
  left_out : {n : ℕ} {text : List ℕ} → AreLines colored n text → AreLines colored (suc n) text

-- so many lines at most were written, or nothing
abbrev pub WritesLines : Bool → ℕ → Option (List ℕ) → Option (List ℕ) → Type 0
WritesLines colored n old new = (old ≡ new) ⊎ ((text : List ℕ) × AreLines colored n text × Appends old new text)

-- the styles whose lines have colours
abbrev pub is_colored : Style → Bool
is_colored Color = true
is_colored Text = false
is_colored Json = false
is_colored Sarif = false
is_colored Github = false

abbrev pub is_error_level : Severity → Bool
is_error_level Error = true
is_error_level Warning = false
is_error_level Note = false

-- what is wrong, and what may be meant otherwise or is worth a note
abbrev pub is_error : Finding → Bool
is_error f = is_error_level f.severity

abbrev pub is_no_error : Finding → Bool
is_no_error f = not (is_error f)
