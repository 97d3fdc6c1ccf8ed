-- Lines with colours, part by part.
use Rattle.std.proofs.Common.{◌≡◌, ◌++◌, Bool, List, ℕ, true, sym, ap, ◌∙◌, subst}
use Rattle.oci_base.specs.Escaped.{IsOneLine}
use Rattle.oci_findings.specs.declared.color.Color.{Color}
use Rattle.oci_findings.specs.Colors.{code_of, IsColored, IsColoredLine}
use Rattle.oci_findings.specs.Lines.{IsShownLine}
use Rattle.oci_findings.specs.Colors.IsColored.{shown, code}

pub part_added : (old new part : List ℕ) → new ≡ old ++ part → IsOneLine part → IsColored old → IsColored new
part_added old new part e line before = subst IsColored (sym e) (shown part before line)

pub code_added : (old new text : List ℕ) (color : Color) → new ≡ old ++ text → text ≡ code_of color → IsColored old → IsColored new
code_added old new text color e is before = subst IsColored (sym (e ∙ ap (λ q. old ++ q) is)) (code color before)

-- a line with colours, where colours are asked for
pub colored_line : (colored : Bool) (line : List ℕ) → colored ≡ true → IsColoredLine line → IsShownLine colored line
colored_line colored line e h = subst (λ b. IsShownLine b line) (sym e) h
