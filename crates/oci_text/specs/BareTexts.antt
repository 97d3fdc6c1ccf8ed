-- Texts of capabilities without `CAP_` in front (runtime specification, "Configuration", "Linux Process", `capabilities`).
use Rattle.std.specs.Prelude.{◌≡◌, ℕ, List, ◌++◌, map}
use Rattle.oci_base.specs.Capabilities.{ascii_upper, cap}

-- the text does not begin with `CAP_`, in any case
abbrev pub IsBare : List ℕ → Type 0
IsBare t = (rest : List ℕ) → ¬ (map ascii_upper t ≡ cap ++ rest)
