-- Members' defaults whose values are readable (RFC 8259, section 4).
use Rattle.std.specs.Prelude.{⊤}
use Rattle.oci_model.specs.Shape.{Presence, defaulted, Shape, list, map, rows, Rows, no_rows, row}
use Rattle.oci_model.specs.Value.{value}
use Rattle.oci_json.specs.Readable.{IsReadable}

-- what is written for the default, if there is one, is readable
abbrev pub IsReadableDefault : Presence → Shape → Type 0
IsReadableDefault (defaulted p) s = IsReadable (value s p)
IsReadableDefault presence s = ⊤

-- so is what is written for each default
abbrev mutual
  pub HasReadableDefaults : Shape → Type 0
  HasReadableDefaults (list s) = HasReadableDefaults s
  HasReadableDefaults (map s) = HasReadableDefaults s
  HasReadableDefaults (rows rs) = HaveReadableDefaults rs
  HasReadableDefaults _ = ⊤

  pub HaveReadableDefaults : Rows → Type 0
  HaveReadableDefaults no_rows = ⊤
  HaveReadableDefaults (row name second presence s rs) = IsReadableDefault presence s × HasReadableDefaults s × HaveReadableDefaults rs
