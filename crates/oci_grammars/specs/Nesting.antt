-- Paths inside one another, as Windows compares them (runtime specification, "Mounts", `destination`; Windows, "Naming Files, Paths, and Namespaces").
use Rattle.std.specs.Prelude.{ℕ, ◌≡◌, ◌<◌, ◌⊎◌, ◌==◌, List, ◌++◌, length, map, codes, if◌then◌else◌}
use Rattle.std.specs.Char.{to_ascii_lowercase}
use Rattle.oci_base.specs.Classes.{slash}
use Rattle.oci_grammars.specs.Parts.{IsBehind, IsRun}

-- a byte as it is compared: a small letter, and "\" for "/"
abbrev pub folded : ℕ → ℕ
folded b = if b == slash then 92 else to_ascii_lowercase b

abbrev pub IsSamePath : List ℕ → List ℕ → Type 0
IsSamePath other text = map folded text ≡ map folded other

abbrev pub IsNotEmpty : List ℕ → Type 0
IsNotEmpty text = 0 < length text

-- a separator, and more
abbrev pub IsBelow : List ℕ → Type 0
IsBelow text = IsBehind (codes "\\") IsNotEmpty text ⊎ IsBehind (codes "/") IsNotEmpty text

-- it ends in a separator
abbrev pub IsRoot : List ℕ → Type 0
IsRoot text = ((front : List ℕ) × (text ≡ front ++ codes "\\")) ⊎ ((front : List ℕ) × (text ≡ front ++ codes "/"))

-- what goes on inside a path
abbrev pub IsDeeper : List ℕ → List ℕ → Type 0
IsDeeper other text = IsBelow text ⊎ (IsRoot other × IsNotEmpty text)

-- a path that begins with the other one, and goes on inside it
abbrev pub IsInside : List ℕ → List ℕ → Type 0
IsInside other text = IsRun (IsSamePath other) (IsDeeper other) text
