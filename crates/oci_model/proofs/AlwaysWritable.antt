-- Shapes of which each plain tree is writable.
use Rattle.std.proofs.Common.{◌≡◌, true, sym, true≢false}
use Rattle.std.proofs.lemmas.Bool.{and_parts}
use Rattle.oci_model.specs.Plain as plain
use Rattle.oci_model.specs.Plain.{Plain, Plains, no_plains, Entries, no_entries, entry, Slot, empty, filled, Slots, no_slots, slot, list_of, map_of, document_of}
use Rattle.oci_model.specs.Shape.{Shape, text, truth, whole, named, open_name, digest_text, cpu_text, cap_set, list, map, key_set, detail, free_map, rows, Rows, no_rows, row}
use Rattle.oci_model.specs.Fits.{Each, EachEntry, IfFilled}
use Rattle.oci_model.specs.Writable.{Writable, AreWritable, is_always_writable, are_always_writable}

module _ (P : Plain → Type 0) (f : (p : Plain) → P p) where
  -- what holds of all holds of each
  pub each_holds : (ps : Plains) → Each P ps
  each_holds no_plains = tt
  each_holds (plain.plain p ps) = (f p, each_holds ps)

  -- of each in a map
  pub each_entry_holds : (es : Entries) → EachEntry P es
  each_entry_holds no_entries = tt
  each_entry_holds (entry k p es) = (f p, each_entry_holds es)

  -- of what is there
  pub slot_holds : (x : Slot) → IfFilled P x
  slot_holds empty = tt
  slot_holds (filled p) = f p

-- shape by shape
mutual
  pub always_writable : (s : Shape) (p : Plain) → is_always_writable s ≡ true → Writable s p
  always_writable text p e = tt
  always_writable truth p e = tt
  always_writable (whole low high) p e = tt
  always_writable (named table) p e = tt
  always_writable (open_name table) p e = tt
  always_writable digest_text p e = tt
  always_writable cpu_text p e = absurd (true≢false (sym e))
  always_writable (cap_set table) p e = tt
  always_writable (list s) p e = each_holds (Writable s) (λ q. always_writable s q e) (list_of p)
  always_writable (map s) p e = each_entry_holds (Writable s) (λ q. always_writable s q e) (map_of p)
  always_writable key_set p e = tt
  always_writable detail p e = absurd (true≢false (sym e))
  always_writable free_map p e = absurd (true≢false (sym e))
  always_writable (rows rs) p e = rows_always_writable rs (document_of p) e

  rows_always_writable : (rs : Rows) (xs : Slots) → are_always_writable rs ≡ true → AreWritable rs xs
  rows_always_writable no_rows xs e = tt
  rows_always_writable (row name second presence s rs) no_slots e = tt
  rows_always_writable (row name second presence s rs) (slot x xs) e =
      let b = and_parts (is_always_writable s) (are_always_writable rs) e in
      (slot_holds (Writable s) (λ q. always_writable s q b.0) x, rows_always_writable rs xs b.1)
