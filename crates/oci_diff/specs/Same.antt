-- Values that are the same.
use Rattle.std.specs.Prelude.{◌≡◌}
use Rattle.serde_json.specs.Data.{Data}
use Rattle.oci_model.specs.Erased.{erased}

-- two values are the same, where all numbers other than 64-bit integers count as one
abbrev pub AreSame : Data → Data → Type 0
AreSame d e = erased d ≡ erased e
