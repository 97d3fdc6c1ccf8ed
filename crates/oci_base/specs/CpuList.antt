-- Lists of processors (Linux, cpuset(7), "List format"; runtime specification, "Linux Process", `execCPUAffinity`).
use Rattle.std.specs.Prelude.{◌≡◌, ℕ, ◌⊎◌, List, ◌∷◌, ◌++◌}
use Rattle.std.specs.Char.{is_ascii_digit}
use Rattle.oci_base.specs.Classes.{dash, IsSomeOf, IsMark, IsJoined}

-- two numbers with a dash between
pub record IsCpuRange (text : List ℕ) : Type 0 where
  pub low : List ℕ
  pub high : List ℕ
  pub is_low : IsSomeOf is_ascii_digit low
  pub is_high : IsSomeOf is_ascii_digit high
  pub spelled : text ≡ low ++ dash ∷ high

-- a number or a range
abbrev pub IsCpuItem : List ℕ → Type 0
IsCpuItem text = IsSomeOf is_ascii_digit text ⊎ IsCpuRange text

-- items joined by commas
abbrev pub IsCpuList : List ℕ → Type 0
IsCpuList text = IsJoined (IsMark 44) IsCpuItem text
