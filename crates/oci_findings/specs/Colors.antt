-- Lines with the colours of a terminal.
use Rattle.std.specs.Prelude.{◌≡◌, ◌++◌, ◌∷◌, [], List, ℕ, codes}
use Rattle.oci_base.specs.Escaped.{IsOneLine}
use Rattle.oci_findings.specs.declared.color.Color.{Color}
use Rattle.oci_findings.specs.declared.color.Color.TheVariants.{Plain, Bold, Red, Green, Yellow, Cyan}

-- "SGR" behind the introducer of control sequences, with what ends each other colour first (ECMA-48, section 8.3.117)
abbrev pub code_of : Color → List ℕ
code_of Plain = 27 ∷ codes "[0m"
code_of Bold = 27 ∷ codes "[0;1m"
code_of Red = 27 ∷ codes "[0;31m"
code_of Green = 27 ∷ codes "[0;32m"
code_of Yellow = 27 ∷ codes "[0;33m"
code_of Cyan = 27 ∷ codes "[0;36m"

-- texts on one line and codes of colours, one behind the other
pub data IsColored : List ℕ → Type 0 where
  nothing : IsColored []
  shown : {text : List ℕ} (part : List ℕ) → IsColored text → IsOneLine part → IsColored (text ++ part)
  code : {text : List ℕ} (color : Color) → IsColored text → IsColored (text ++ code_of color)

-- a line: these, and a newline
abbrev pub IsColoredLine : List ℕ → Type 0
IsColoredLine line = (text : List ℕ) × IsColored text × (line ≡ text ++ 10 ∷ [])
