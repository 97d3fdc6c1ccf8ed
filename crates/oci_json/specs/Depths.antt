-- How deep what is written nests (RFC 8259, section 9: a parser may limit the depth of nesting).
use Rattle.std.specs.Prelude.{◌&&◌, ℕ, suc, max, Bool, true, false}
use Rattle.serde_json.specs.Data.{depth}
use Rattle.oci_model.specs.Shape.{Presence, defaulted, Shape, cap_set, list, map, key_set, detail, free_map, rows, Rows, no_rows, row}
use Rattle.oci_model.specs.Value.{value}

-- how deep a member's default nests, if it has one
abbrev pub default_depth : Presence → Shape → ℕ
default_depth (defaulted p) s = depth (value s p)
default_depth presence s = 0

-- The shape's own arrays and objects, and those of its defaults. What a `detail` or a free map holds is not counted.
abbrev mutual
  pub nesting : Shape → ℕ
  nesting (cap_set table) = 1
  nesting (list s) = suc (nesting s)
  nesting (map s) = suc (nesting s)
  nesting key_set = 2
  nesting free_map = 1
  nesting (rows rs) = suc (rows_nesting rs)
  nesting _ = 0

  pub rows_nesting : Rows → ℕ
  rows_nesting no_rows = 0
  rows_nesting (row name second presence s rs) = max (default_depth presence s) (max (nesting s) (rows_nesting rs))

-- it has no `detail` and no free map
abbrev mutual
  pub is_closed : Shape → Bool
  is_closed (list s) = is_closed s
  is_closed (map s) = is_closed s
  is_closed detail = false
  is_closed free_map = false
  is_closed (rows rs) = are_closed rs
  is_closed _ = true

  pub are_closed : Rows → Bool
  are_closed no_rows = true
  are_closed (row name second presence s rs) = is_closed s && are_closed rs
