-- Which plain trees have a JSON value.
use Rattle.std.specs.Prelude.{◌≡◌, ◌&&◌, Bool, true, false, Some, ⊤}
use Rattle.serde_json.specs.Data.{Data}
use Rattle.serde_json.specs.Read.{read}
use Rattle.serde_json.specs.Written.{has_float, members_have_float}
use Rattle.oci_base.specs.CpuList.{IsCpuList}
use Rattle.oci_model.specs.Plain.{Plain, Slots, no_slots, slot, text_of, free_of, list_of, map_of, document_of}
use Rattle.oci_model.specs.Shape.{Shape, text, truth, whole, named, open_name, digest_text, cpu_text, cap_set, list, map, key_set, detail, free_map, rows, Rows, no_rows, row}
use Rattle.oci_model.specs.Fits.{Each, EachEntry, IfFilled}
use Rattle.oci_model.specs.Value.{free_members}

abbrev mutual
  pub Writable : Shape → Plain → Type 0
  Writable text p = ⊤
  Writable truth p = ⊤
  Writable (whole low high) p = ⊤
  Writable (named table) p = ⊤
  Writable (open_name table) p = ⊤
  Writable digest_text p = ⊤
  Writable cpu_text p = IsCpuList (text_of p)
  Writable (cap_set table) p = ⊤
  Writable (list s) p = Each (Writable s) (list_of p)
  Writable (map s) p = EachEntry (Writable s) (map_of p)
  Writable key_set p = ⊤
  Writable detail p = (d : Data) × (read (text_of p) ≡ Some d) × (has_float d ≡ false)
  Writable free_map p = members_have_float (free_members (free_of p)) ≡ false
  Writable (rows rs) p = AreWritable rs (document_of p)

  pub AreWritable : Rows → Slots → Type 0
  AreWritable no_rows xs = ⊤
  AreWritable (row name second presence s rs) no_slots = ⊤
  AreWritable (row name second presence s rs) (slot x xs) = IfFilled (Writable s) x × AreWritable rs xs

-- ---- shapes of which each plain tree has one

-- it has no CPU list, no `detail` and no free map
abbrev mutual
  pub is_always_writable : Shape → Bool
  is_always_writable cpu_text = false
  is_always_writable (list s) = is_always_writable s
  is_always_writable (map s) = is_always_writable s
  is_always_writable detail = false
  is_always_writable free_map = false
  is_always_writable (rows rs) = are_always_writable rs
  is_always_writable _ = true

  pub are_always_writable : Rows → Bool
  are_always_writable no_rows = true
  are_always_writable (row name second presence s rs) = is_always_writable s && are_always_writable rs
