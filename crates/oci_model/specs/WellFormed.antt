-- Which shapes make sense.
use Rattle.std.specs.Prelude.{◌≡◌, ◌^◌, ◌-◌, ◌&&◌, pos, negsuc, ⊤, IsTrue, int_le}
use Rattle.std.specs.List.{list_all}
use Rattle.oci_base.specs.Capabilities.{is_capability_name}
use Rattle.oci_base.specs.Names.{no_text_twice}
use Rattle.oci_model.specs.Shape as shape
use Rattle.oci_model.specs.Shape.{Presence, required, defaulted, optional, nullable, unless_empty, Shape, text, truth, whole, named, open_name, digest_text, cpu_text, cap_set, list, key_set, detail, free_map, rows, Rows, no_rows, row, names}
use Rattle.oci_model.specs.Fits.{Fits}
use Rattle.oci_model.specs.Norm.{norm}
use Rattle.oci_model.specs.Writable.{Writable}

-- a `detail` may only be an optional member, and only a list may be omitted where it is empty
abbrev pub MemberIsWellFormed : Presence → Shape → Type 0 → Type 0
MemberIsWellFormed required s is_well = is_well
MemberIsWellFormed (defaulted p) s is_well = is_well × Fits s p × Writable s p × (norm s p ≡ p)
MemberIsWellFormed optional detail is_well = ⊤
MemberIsWellFormed optional s is_well = is_well
MemberIsWellFormed nullable s is_well = is_well
MemberIsWellFormed unless_empty (list s) is_well = is_well
MemberIsWellFormed unless_empty s is_well = ⊥

abbrev mutual
  pub WellFormed : Shape → Type 0
  WellFormed text = ⊤
  WellFormed truth = ⊤
  WellFormed (whole low high) = IsTrue (int_le (negsuc (2 ^ 63 - 1)) low && int_le high (pos (2 ^ 64 - 1)))
  WellFormed (named table) = IsTrue (no_text_twice table)
  WellFormed (open_name table) = IsTrue (no_text_twice table)
  WellFormed digest_text = ⊤
  WellFormed cpu_text = ⊤
  WellFormed (cap_set table) = IsTrue (no_text_twice table && list_all is_capability_name table)
  WellFormed (list s) = WellFormed s
  WellFormed (shape.map s) = WellFormed s
  WellFormed key_set = ⊤
  WellFormed detail = ⊥
  WellFormed free_map = ⊤
  WellFormed (rows rs) = IsTrue (no_text_twice (names rs)) × AreWellFormed rs

  pub AreWellFormed : Rows → Type 0
  AreWellFormed no_rows = ⊤
  AreWellFormed (row name second presence s rs) = MemberIsWellFormed presence s (WellFormed s) × AreWellFormed rs
