-- What a tree that was read means is written no deeper than a text may nest, if the shape nests no deeper.
use Rattle.std.proofs.Common.{◌≡◌, ◌≤◌, ◌-◌, ℕ, List, Some, unwrap_or, ◌∙◌, sym, ap, subst, arith}
use Rattle.serde_json.specs.Data.{Data, null, object, Members, no_members, depth, members_depth}
use Rattle.serde_json.specs.Find.{get}
use Rattle.serde_json.specs.Read.{read, max_depth}
use Rattle.oci_model.specs.Plain.{Plain, Slots, no_slots, slot, text_of, set_of, keys_of, free_of, list_of, map_of, document_of}
use Rattle.oci_model.specs.Shape.{Presence, required, defaulted, optional, nullable, unless_empty, Shape, text, truth, whole, named, open_name, digest_text, cpu_text, cap_set, list, map, key_set, detail, free_map, rows, Rows, no_rows, row}
use Rattle.oci_model.specs.Fits.{Each, EachEntry}
use Rattle.oci_model.specs.Means.{get_second, Means, MeansRows}
use Rattle.oci_model.specs.Value.{value, sorted, free_members, with_rows}
use Rattle.oci_model.specs.WellFormed.{WellFormed, AreWellFormed}
use Rattle.oci_json.specs.Depths.{default_depth, nesting, rows_nesting}
use Rattle.oci_json.proofs.Depths.{IsShallow, with_depth, member_depth, texts_depth, objects_depth, each_depth, each_entry_depth}
use Rattle.oci_json.proofs.Meanings.{MayBe, may_be, allowed, of_member, IfDefault, each_meant, each_entry_meant, either_meant, if_there, got_of, second_of}
use Rattle.oci_json.proofs.Trees.{IsWithin, the_object, read_within, array_within, object_within}
use Rattle.oci_json.proofs.ReadAgain.{compact_read}
use Rattle.oci_json.proofs.ReadIsWritable.{members_kept}

-- a default nests no deeper than itself
default_shallow : (presence : Presence) (s : Shape) (n : ℕ) → default_depth presence s ≤ n → IfDefault (IsShallow n (value s)) presence
default_shallow required s n h = tt
default_shallow (defaulted q) s n h = h
default_shallow optional s n h = tt
default_shallow nullable s n h = tt
default_shallow unless_empty s n h = tt

-- the tree that a `detail` keeps as its text
detail_value : (d : Data) (p : Plain) (n : ℕ) → n ≤ max_depth → IsWithin n d → Means detail d p → value detail p ≡ d
detail_value d p n l r h =
    ap (λ p. unwrap_or (read (text_of p)) null) h.2 ∙ ap (λ o. unwrap_or o null) (compact_read d r.0 (omega (arith, l, r.1)) h.1)

-- the tree that a free map keeps
pub free_value : (d : Data) (p : Plain) → Means free_map d p → value free_map p ≡ d
free_value d p h = ap (λ p. object (free_members (free_of p))) h.2 ∙ ap object (members_kept h.0) ∙ sym (the_object d h.0 h.1)

-- shape by shape
mutual
  unfolding MayBe

  meant_depth : (s : Shape) → MayBe s → (n : ℕ) → n ≤ max_depth → nesting s ≤ n → (d : Data) (p : Plain) → IsWithin n d → Means s d p → IsShallow n (value s) p
  meant_depth text may n l k d p r h = omega arith
  meant_depth truth may n l k d p r h = omega arith
  meant_depth (whole low high) may n l k d p r h = omega arith
  meant_depth (named table) may n l k d p r h = omega arith
  meant_depth (open_name table) may n l k d p r h = omega arith
  meant_depth digest_text may n l k d p r h = omega arith
  meant_depth cpu_text may n l k d p r h = omega arith
  meant_depth (cap_set table) may n l k d p r h = omega (arith, k, texts_depth table (set_of p))
  meant_depth (list s) may n l k d p r h =
      let all = subst (λ p. Each (IsShallow (n - 1) (value s)) (list_of p)) (sym h.3)
      (each_meant (IsWithin (n - 1)) (Means s) (IsShallow (n - 1) (value s)) (meant_depth s (may_be s (WellFormed s) may) (n - 1) (omega (arith, l)) (omega (arith, k)))
      h.0 h.1 (array_within d h.0 n h.2 r) h.4) in
      omega (arith, k, each_depth (value s) (n - 1) (list_of p) all)
  meant_depth (map s) may n l k d p r h =
      let all = subst (λ p. EachEntry (IsShallow (n - 1) (value s)) (map_of p)) (sym h.3)
      (each_entry_meant (IsWithin (n - 1)) (Means s) (IsShallow (n - 1) (value s)) (meant_depth s (may_be s (WellFormed s) may) (n - 1) (omega (arith, l)) (omega (arith, k)))
      h.0 h.1 (object_within d h.0 n h.2 r).0 h.4) in
      omega (arith, k, each_entry_depth (value s) (n - 1) (map_of p) all)
  meant_depth key_set may n l k d p r h = omega (arith, k, objects_depth (sorted (keys_of p)))
  meant_depth detail may n l k d p r h = subst (λ d. depth d ≤ n) (sym (detail_value d p n l r h)) r.1
  meant_depth free_map may n l k d p r h = subst (λ d. depth d ≤ n) (sym (free_value d p h)) r.1
  meant_depth (rows rs) may n l k d p r h =
      let all = subst (λ p. members_depth (with_rows rs (document_of p) no_members) ≤ n - 1) (sym h.2)
      (rows_depth rs may.1 n l (omega (arith, k)) d h.0 r h.3 no_members (omega arith)) in
      omega (arith, k, all)

  rows_depth : (rs : Rows) → AreWellFormed rs → (n : ℕ) → n ≤ max_depth → rows_nesting rs ≤ n - 1 → (d : Data) (xs : Slots) → IsWithin n d → MeansRows rs d xs
      → (ms : Members) → members_depth ms ≤ n - 1 → members_depth (with_rows rs xs ms) ≤ n - 1
  rows_depth no_rows w n l k d no_slots r h ms j = j
  rows_depth no_rows w n l k d (slot x xs) r h ms j = absurd h
  rows_depth (row name second presence s rs) w n l k d no_slots r h ms j = absurd h
  rows_depth (row name second presence s rs) w n l k d (slot x xs) r h ms j =
      let first = if_there (IsShallow (n - 1) (value s)) presence x
      (either_meant (IsWithin (n - 1)) (Means s) (IsShallow (n - 1) (value s)) (meant_depth s (of_member presence s w.0) (n - 1) (omega (arith, l)) (omega (arith, k))) presence
      (default_shallow presence s (n - 1) (omega (arith, k))) (get name d) (get_second second d) x
      (got_of (IsWithin (n - 1)) name d (λ ms e. (object_within d ms n e r).0)) (second_of (IsWithin (n - 1)) second d (λ ms e. (object_within d ms n e r).0)) h.0) in
      rows_depth rs w.1 n l (omega (arith, k)) d xs r h.1 _ (with_depth name _ ms (n - 1) (member_depth presence (value s) x (n - 1) first) j)

-- of what was read
pub read_depth : (s : Shape) (t : List ℕ) (v : Data) (p : Plain) → WellFormed s → read t ≡ Some v → Means s v p → nesting s ≤ max_depth
    → depth (value s p) ≤ max_depth
read_depth s t v p w e h k = meant_depth s (allowed s w) max_depth (omega arith) k v p (read_within t v e) h
