-- What a tree that was read means is written as a readable tree, if the shape's defaults are readable.
use Rattle.std.proofs.Common.{◌≡◌, ◌-◌, ℕ, ℤ, pos, negsuc, List, [], ◌∷◌, Bool, true, false, cond, Option, Some, None, unwrap_or, Less, nat_cmp, sym, subst}
use Rattle.std.specs.Cmp.Lexicographic.{slice_cmp}
use Rattle.serde_json.specs.Data.{unsigned, negative, float, Data, null, boolean, number, string, array, object, Members, no_members, member}
use Rattle.serde_json.specs.Find.{get, of_integer}
use Rattle.serde_json.specs.Read.{read}
use Rattle.oci_model.specs.Plain as plain
use Rattle.oci_model.specs.Plain.{Plain, Plains, no_plains, Entries, no_entries, entry, Slot, empty, filled, Slots, no_slots, slot, text_of, whole_of, set_of, keys_of, list_of, map_of, document_of}
use Rattle.oci_model.specs.Shape.{Presence, required, defaulted, optional, nullable, unless_empty, Shape, text, truth, whole, named, open_name, digest_text, cpu_text, cap_set, list, map, key_set, detail, free_map, rows, Rows, no_rows, row}
use Rattle.oci_model.specs.Fits.{Each, EachEntry, IfFilled}
use Rattle.oci_model.specs.Means.{as_whole, EachEntryMeans, get_second, Means, MeansRows}
use Rattle.oci_model.specs.Value.{value, capability_texts, sorted, empty_objects, each_value, each_entry_value, is_empty_array, member_value, with_member, with_rows}
use Rattle.oci_model.specs.WellFormed.{WellFormed, AreWellFormed}
use Rattle.oci_json.specs.Defaults.{IsReadableDefault, HasReadableDefaults, HaveReadableDefaults}
use Rattle.oci_json.proofs.Meanings.{MayBe, may_be, of_member, OfSome, IfDefault, each_meant, each_entry_meant, either_meant, if_there, got_of, second_of}
use Rattle.oci_json.specs.Readable.{IsHeld, IsBefore, IsInOrder, IsReadable, AreReadable, HoldReadable}
use Rattle.oci_json.proofs.Trees.{before_rest, put_in_order, put_holds, tree_read, IsWithin, array_within, object_within}
use Rattle.oci_json.proofs.MeaningDepth.{free_value}
use Rattle.oci_json.proofs.Sorting.{IsSorted, is_sorted}

-- what is written is readable
abbrev IsReadableOf : (Plain → Data) → Plain → Type 0
IsReadableOf v p = IsReadable (v p)

-- ---- leaves

-- a number that was read is written as one that can be
held_again : (d : Data) (z : ℤ) → as_whole d ≡ Some z → IsReadable d → IsHeld (of_integer z)
held_again null z e h = cc
held_again (boolean b) z e h = cc
held_again (number (unsigned n)) z e h = let same : pos n ≡ z = cc in subst (λ z. IsHeld (of_integer z)) same h
held_again (number (negative (pos n))) z e h = absurd h
held_again (number (negative (negsuc n))) z e h = let same : negsuc n ≡ z = cc in subst (λ z. IsHeld (of_integer z)) same h
held_again (number (float x)) z e h = cc
held_again (string s) z e h = cc
held_again (array ds) z e h = cc
held_again (object ms) z e h = cc

-- the texts of a set
texts_are : (table : List (List ℕ)) (bs : List Bool) → AreReadable (capability_texts table bs)
texts_are [] bs = tt
texts_are (t ∷ table) [] = tt
texts_are (t ∷ table) (true ∷ bs) = (tt, texts_are table bs)
texts_are (t ∷ table) (false ∷ bs) = texts_are table bs

-- the objects of a set of names
objects_are : (ks : List (List ℕ)) → HoldReadable (empty_objects ks)
objects_are [] = tt
objects_are (k ∷ ks) = ((tt, tt), objects_are ks)

-- sorted names are in order
objects_in_order : (ks : List (List ℕ)) → IsSorted ks → IsInOrder (empty_objects ks)
objects_in_order [] h = tt
objects_in_order (k ∷ []) h = (tt, tt)
objects_in_order (k ∷ (l ∷ ks)) h =
    let rest = objects_in_order (l ∷ ks) h.1 in ((h.0, before_rest k l (empty_objects ks) h.0 rest.0), rest)

-- the tree of a text, or null
tree_or_null : (o : Option Data) → OfSome IsReadable o → IsReadable (unwrap_or o null)
tree_or_null None h = tt
tree_or_null (Some d) h = h

-- ---- parts

-- the items of a list
each_is : (v : Plain → Data) (ps : Plains) → Each (IsReadableOf v) ps → AreReadable (each_value v ps)
each_is v no_plains h = tt
each_is v (plain.plain p ps) h = (h.0, each_is v ps h.1)

-- the members of a map
each_entry_is : (v : Plain → Data) (es : Entries) → EachEntry (IsReadableOf v) es → HoldReadable (each_entry_value v es)
each_entry_is v no_entries h = tt
each_entry_is v (entry k p es) h = (h.0, each_entry_is v es h.1)

-- a name that stands before those that were read stands before those that are written
before_kept : (M : Data → Plain → Type 0) (v : Plain → Data) (k : List ℕ) (ms : Members) (es : Entries) → EachEntryMeans M ms es → IsBefore k ms
    → IsBefore k (each_entry_value v es)
before_kept M v k no_members no_entries m h = tt
before_kept M v k no_members (entry l p es) m h = absurd m
before_kept M v k (member l d ms) no_entries m h = absurd m
before_kept M v k (member l d ms) (entry j p es) m h =
    (subst (λ l. slice_cmp nat_cmp k l ≡ Less) (sym m.0) h.0, before_kept M v k ms es m.2 h.1)

-- a map's names are written in the order in which they were read
order_kept : (M : Data → Plain → Type 0) (v : Plain → Data) (ms : Members) (es : Entries) → EachEntryMeans M ms es → IsInOrder ms → IsInOrder (each_entry_value v es)
order_kept M v no_members no_entries m h = tt
order_kept M v no_members (entry l p es) m h = absurd m
order_kept M v (member l d ms) no_entries m h = absurd m
order_kept M v (member l d ms) (entry k p es) m h =
    (before_kept M v k ms es m.2 (subst (λ k. IsBefore k ms) (sym m.0) h.0), order_kept M v ms es m.2 h.1)

-- written or omitted
unless_tree : (b : Bool) (d : Data) → IsReadable d → OfSome IsReadable (cond b None (Some d))
unless_tree true d is = tt
unless_tree false d is = is

-- what is written for a listed member
member_is : (presence : Presence) (v : Plain → Data) (x : Slot) → IfFilled (IsReadableOf v) x → OfSome IsReadable (member_value presence v x)
member_is required v empty h = tt
member_is required v (filled p) h = h
member_is (defaulted q) v empty h = tt
member_is (defaulted q) v (filled p) h = h
member_is optional v empty h = tt
member_is optional v (filled p) h = h
member_is nullable v empty h = tt
member_is nullable v (filled p) h = h
member_is unless_empty v empty h = tt
member_is unless_empty v (filled p) h = unless_tree (is_empty_array (v p)) (v p) h

-- an object with one more member
with_one : (name : List ℕ) (o : Option Data) (ms : Members) → OfSome IsReadable o → IsReadable (object ms) → IsReadable (object (with_member name o ms))
with_one name None ms is h = h
with_one name (Some d) ms is h = (put_in_order name d ms h.0, put_holds name d ms is h.1)

-- a readable default
default_is : (presence : Presence) (s : Shape) → IsReadableDefault presence s → IfDefault (IsReadableOf (value s)) presence
default_is required s h = tt
default_is (defaulted q) s h = h
default_is optional s h = tt
default_is nullable s h = tt
default_is unless_empty s h = tt

-- shape by shape
mutual
  unfolding MayBe

  pub is_readable : (s : Shape) → MayBe s → HasReadableDefaults s → (n : ℕ) (d : Data) (p : Plain) → IsWithin n d → Means s d p → IsReadableOf (value s) p
  is_readable text may k n d p r h = tt
  is_readable truth may k n d p r h = tt
  is_readable (whole low high) may k n d p r h = subst (λ p. IsHeld (of_integer (whole_of p))) (sym h.2) (held_again d h.0 h.1 r.0)
  is_readable (named table) may k n d p r h = tt
  is_readable (open_name table) may k n d p r h = tt
  is_readable digest_text may k n d p r h = tt
  is_readable cpu_text may k n d p r h = tt
  is_readable (cap_set table) may k n d p r h = texts_are table (set_of p)
  is_readable (list s) may k n d p r h =
      each_is (value s) (list_of p)
      (subst (λ p. Each (IsReadableOf (value s)) (list_of p)) (sym h.3)
      (each_meant (IsWithin (n - 1)) (Means s) (IsReadableOf (value s)) (is_readable s (may_be s (WellFormed s) may) k (n - 1)) h.0 h.1 (array_within d h.0 n h.2 r) h.4))
  is_readable (map s) may k n d p r h =
      let parts = object_within d h.0 n h.2 r in
      subst (λ p. IsReadable (object (each_entry_value (value s) (map_of p)))) (sym h.3) (
        order_kept (Means s) (value s) h.0 h.1 h.4 parts.1,
        each_entry_is (value s) h.1
            (each_entry_meant (IsWithin (n - 1)) (Means s) (IsReadableOf (value s)) (is_readable s (may_be s (WellFormed s) may) k (n - 1)) h.0 h.1 parts.0 h.4),
      )
  is_readable key_set may k n d p r h = (objects_in_order (sorted (keys_of p)) (is_sorted (keys_of p)), objects_are (sorted (keys_of p)))
  is_readable detail may k n d p r h = tree_or_null (read (text_of p)) (tree_read (text_of p))
  is_readable free_map may k n d p r h = subst IsReadable (sym (free_value d p h)) r.0
  is_readable (rows rs) may k n d p r h =
      subst (λ p. IsReadable (object (with_rows rs (document_of p) no_members))) (sym h.2) (rows_are rs may.1 k n d h.0 r h.3 no_members (tt, tt))

  rows_are : (rs : Rows) → AreWellFormed rs → HaveReadableDefaults rs → (n : ℕ) (d : Data) (xs : Slots) → IsWithin n d → MeansRows rs d xs
      → (ms : Members) → IsReadable (object ms) → IsReadable (object (with_rows rs xs ms))
  rows_are no_rows w k n d no_slots r h ms is = is
  rows_are no_rows w k n d (slot x xs) r h ms is = absurd h
  rows_are (row name second presence s rs) w k n d no_slots r h ms is = absurd h
  rows_are (row name second presence s rs) w k n d (slot x xs) r h ms is =
      let first = if_there (IsReadableOf (value s)) presence x
      (either_meant (IsWithin (n - 1)) (Means s) (IsReadableOf (value s)) (is_readable s (of_member presence s w.0) k.1 (n - 1)) presence
      (default_is presence s k.0) (get name d) (get_second second d) x
      (got_of (IsWithin (n - 1)) name d (λ ms e. (object_within d ms n e r).0)) (second_of (IsWithin (n - 1)) second d (λ ms e. (object_within d ms n e r).0)) h.0) in
      rows_are rs w.1 k.2 n d xs r h.1 _ (with_one name _ ms (member_is presence (value s) x first) is)
