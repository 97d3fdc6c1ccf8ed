-- Objects of any values as members (runtime specification, "Windows-specific Container Configuration", "Credential Spec"): their content, and when two are equal.
use Rattle.std.specs.Prelude.{◌&&◌, Bool, true, false, bytes_eq, ℕ, List, [], ◌∷◌, Option, Some, None, String, string_bytes, map, option_map}
use Rattle.std.specs.BTreeMap.{BTreeMap}
use Rattle.std.specs.declared.alloc.Global.{Global}
use Rattle.serde_json.specs.Data.{Data}
use Rattle.serde_json.specs.View.{view}
use Rattle.serde_json.specs.declared.value.Value.{Value}
use Rattle.oci_model.specs.Erased.{erased_values}
use Rattle.oci_model.specs.Plain.{Plain, free}
use Rattle.oci_model.specs.Alike.{is_same}

-- a name and its value, or none
abbrev pub FreeEntry : Type 0
FreeEntry = String Global × Option Value

-- the trees of the values
abbrev pub values_view : List FreeEntry → List (List ℕ × Option Data)
values_view es = map (λ e. (string_bytes e.0, option_map view e.1)) es

-- the content, in which all numbers but 64-bit whole ones are one
abbrev pub free_plain : List FreeEntry → Plain
free_plain es = free (erased_values (values_view es))

abbrev pub free_values_plain : BTreeMap (String Global) (Option Value) → Plain
free_values_plain m = free_plain m.entries

-- ---- when two maps count as equal

-- both none, or trees that count as equal
abbrev pub alike : Option Data → Option Data → Bool
alike None None = true
alike (Some d) (Some e) = is_same d e
alike _ _ = false

-- the same names, in order, with values that are alike
abbrev pub are_alike : List (List ℕ × Option Data) → List (List ℕ × Option Data) → Bool
are_alike [] [] = true
are_alike (e ∷ es) (f ∷ fs) = bytes_eq e.0 f.0 && alike e.1 f.1 && are_alike es fs
are_alike _ _ = false

abbrev pub free_eq : BTreeMap (String Global) (Option Value) → BTreeMap (String Global) (Option Value) → Bool
free_eq v w = are_alike (values_view v.entries) (values_view w.entries)
