-- The plain tree that the written value means.
use Rattle.std.specs.Prelude.{ℕ, List, [], ◌∷◌, if◌then◌else◌, Option, unwrap_or, option_and_then}
use Rattle.serde_json.specs.Data.{Data, null}
use Rattle.serde_json.specs.Read.{read}
use Rattle.serde_json.specs.Written.{compact_text}
use Rattle.oci_model.specs.Plain as plain
use Rattle.oci_model.specs.Plain.{Plain, Plains, no_plains, Entries, no_entries, entry, Slot, empty, filled, Slots, no_slots, slot, text_of, keys_of, free_of, list_of, map_of, document_of}
use Rattle.oci_model.specs.Shape.{Presence, required, defaulted, optional, nullable, unless_empty, Shape, text, truth, whole, named, open_name, digest_text, cpu_text, cap_set, list, map, key_set, detail, free_map, rows, Rows, no_rows, row}
use Rattle.oci_model.specs.Means.{opened, unless_null}
use Rattle.oci_model.specs.Value.{value, sorted, is_null, is_empty_array}

-- `Other` of a listed text becomes the variant
abbrev pub norm_open : List (List ℕ) → Plain → Plain
norm_open table (plain.other t) = opened table t
norm_open table p = p

-- a null value becomes none
abbrev pub norm_free : List (List ℕ × Option Data) → List (List ℕ × Option Data)
norm_free [] = []
norm_free (e ∷ es) = (e.0, option_and_then unless_null e.1) ∷ norm_free es

abbrev pub each_plain : (Plain → Plain) → Plains → Plains
each_plain f no_plains = no_plains
each_plain f (plain.plain p ps) = plain.plain (f p) (each_plain f ps)

abbrev pub each_entry : (Plain → Plain) → Entries → Entries
each_entry f no_entries = no_entries
each_entry f (entry k p es) = entry k (f p) (each_entry f es)

-- What is written as null is none, and so is, of a list that is omitted where it is empty, an empty one.
-- (Only a `detail` is ever written as null.)
abbrev pub norm_member : Presence → (Plain → Data) → (Plain → Plain) → Slot → Slot
norm_member presence v f empty = empty
norm_member required v f (filled p) = filled (f p)
norm_member (defaulted d) v f (filled p) = filled (f p)
norm_member optional v f (filled p) = if is_null (v p) then empty else filled (f p)
norm_member nullable v f (filled p) = if is_null (v p) then empty else filled (f p)
norm_member unless_empty v f (filled p) = if is_empty_array (v p) then empty else filled (f p)

abbrev mutual
  pub norm : Shape → Plain → Plain
  norm text p = p
  norm truth p = p
  norm (whole low high) p = p
  norm (named table) p = p
  norm (open_name table) p = norm_open table p
  norm digest_text p = p
  norm cpu_text p = p
  norm (cap_set table) p = p
  norm (list s) p = plain.list (each_plain (norm s) (list_of p))
  norm (map s) p = plain.map (each_entry (norm s) (map_of p))
  norm key_set p = plain.keys (sorted (keys_of p))
  norm detail p = plain.text (compact_text (unwrap_or (read (text_of p)) null))
  norm free_map p = plain.free (norm_free (free_of p))
  norm (rows rs) p = plain.document (norm_rows rs (document_of p))

  pub norm_rows : Rows → Slots → Slots
  norm_rows no_rows xs = xs
  norm_rows (row name second presence s rs) no_slots = no_slots
  norm_rows (row name second presence s rs) (slot x xs) = slot (norm_member presence (value s) (norm s) x) (norm_rows rs xs)
