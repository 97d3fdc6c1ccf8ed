-- What is written for a closed shape nests no deeper than the shape.
use Rattle.std.proofs.Common.{◌≡◌, ◌≤◌, ◌-◌, ℕ, List, [], ◌∷◌, Bool, true, false, cond, Option, Some, None, Ordering, Less, Equal, Greater, nat_cmp, sym, true≢false, arith}
use Rattle.std.specs.Ordering.{match_ordering}
use Rattle.std.specs.Cmp.Lexicographic.{slice_cmp}
use Rattle.std.proofs.lemmas.Bool.{and_parts}
use Rattle.serde_json.specs.Data.{Data, Members, no_members, member, put, depth, items_depth, members_depth}
use Rattle.oci_model.specs.Plain as plain
use Rattle.oci_model.specs.Plain.{Plain, Plains, no_plains, Entries, no_entries, entry, Slot, empty, filled, Slots, no_slots, slot, set_of, keys_of, list_of, map_of, document_of}
use Rattle.oci_model.specs.Shape.{Presence, required, defaulted, optional, nullable, unless_empty, Shape, text, truth, whole, named, open_name, digest_text, cpu_text, cap_set, list, map, key_set, detail, free_map, rows, Rows, no_rows, row}
use Rattle.oci_model.specs.Fits.{Each, EachEntry, IfFilled}
use Rattle.oci_model.specs.Value.{value, capability_texts, sorted, empty_objects, each_value, each_entry_value, is_empty_array, member_value, with_member, with_rows}
use Rattle.oci_model.proofs.AlwaysWritable.{each_holds, each_entry_holds, slot_holds}
use Rattle.oci_json.specs.Depths.{nesting, rows_nesting, is_closed, are_closed}
use Rattle.oci_json.proofs.Meanings.{OfSome}

-- ---- parts

-- what is written nests so deep at most
abbrev pub IsShallow : ℕ → (Plain → Data) → Plain → Type 0
IsShallow n v p = depth (v p) ≤ n

-- a member that is put in deepens no more than itself
put_depth : (k : List ℕ) (d : Data) (ms : Members) (n : ℕ) → depth d ≤ n → members_depth ms ≤ n → members_depth (put k d ms) ≤ n
put_depth k d no_members n p q = omega arith
put_depth k d (member l e ms) n p q = here (slice_cmp nat_cmp k l) (put_depth k d ms n p (omega arith))
  where
    here : (o : Ordering) → members_depth (put k d ms) ≤ n → members_depth (match_ordering o (member k d (member l e ms)) (member l d ms) (member l e (put k d ms))) ≤ n
    here Less rest = omega arith
    here Equal rest = omega arith
    here Greater rest = omega arith

-- so of a listed member, if it is written
pub with_depth : (name : List ℕ) (o : Option Data) (ms : Members) (n : ℕ) → OfSome (λ d. depth d ≤ n) o → members_depth ms ≤ n → members_depth (with_member name o ms) ≤ n
with_depth name None ms n p q = q
with_depth name (Some d) ms n p q = put_depth name d ms n p q

-- written or omitted
unless_shallow : (b : Bool) (d : Data) (n : ℕ) → depth d ≤ n → OfSome (λ d. depth d ≤ n) (cond b None (Some d))
unless_shallow true d n p = tt
unless_shallow false d n p = p

-- what is written for a listed member
pub member_depth : (presence : Presence) (v : Plain → Data) (x : Slot) (n : ℕ) → IfFilled (IsShallow n v) x → OfSome (λ d. depth d ≤ n) (member_value presence v x)
member_depth required v empty n h = tt
member_depth required v (filled p) n h = h
member_depth (defaulted q) v empty n h = tt
member_depth (defaulted q) v (filled p) n h = h
member_depth optional v empty n h = tt
member_depth optional v (filled p) n h = h
member_depth nullable v empty n h = omega arith
member_depth nullable v (filled p) n h = h
member_depth unless_empty v empty n h = tt
member_depth unless_empty v (filled p) n h = unless_shallow (is_empty_array (v p)) (v p) n h

-- texts don't nest
pub texts_depth : (table : List (List ℕ)) (bs : List Bool) → items_depth (capability_texts table bs) ≤ 0
texts_depth [] bs = omega arith
texts_depth (t ∷ table) [] = omega arith
texts_depth (t ∷ table) (true ∷ bs) = let rest = texts_depth table bs in omega arith
texts_depth (t ∷ table) (false ∷ bs) = texts_depth table bs

-- empty objects nest one deep
pub objects_depth : (ks : List (List ℕ)) → members_depth (empty_objects ks) ≤ 1
objects_depth [] = omega arith
objects_depth (k ∷ ks) = let rest = objects_depth ks in omega arith

-- items nest as deep as the deepest
pub each_depth : (v : Plain → Data) (n : ℕ) (ps : Plains) → Each (IsShallow n v) ps → items_depth (each_value v ps) ≤ n
each_depth v n no_plains h = omega arith
each_depth v n (plain.plain p ps) h = let first = h.0 in let rest = each_depth v n ps h.1 in omega arith

-- so do members
pub each_entry_depth : (v : Plain → Data) (n : ℕ) (es : Entries) → EachEntry (IsShallow n v) es → members_depth (each_entry_value v es) ≤ n
each_entry_depth v n no_entries h = omega arith
each_entry_depth v n (entry k p es) h = let first = h.0 in let rest = each_entry_depth v n es h.1 in omega arith

-- ---- of a closed shape

-- shape by shape
mutual
  closed_depth : (s : Shape) (n : ℕ) → is_closed s ≡ true → nesting s ≤ n → (p : Plain) → IsShallow n (value s) p
  closed_depth text n e h p = omega arith
  closed_depth truth n e h p = omega arith
  closed_depth (whole low high) n e h p = omega arith
  closed_depth (named table) n e h p = omega arith
  closed_depth (open_name table) n e h p = omega arith
  closed_depth digest_text n e h p = omega arith
  closed_depth cpu_text n e h p = omega arith
  closed_depth (cap_set table) n e h p = omega (arith, texts_depth table (set_of p))
  closed_depth (list s) n e h p =
      let items = each_depth (value s) (n - 1) (list_of p) (each_holds (IsShallow (n - 1) (value s)) (closed_depth s (n - 1) e (omega arith)) (list_of p)) in omega arith
  closed_depth (map s) n e h p =
      let members = each_entry_depth (value s) (n - 1) (map_of p) (each_entry_holds (IsShallow (n - 1) (value s)) (closed_depth s (n - 1) e (omega arith)) (map_of p)) in omega arith
  closed_depth key_set n e h p = omega (arith, objects_depth (sorted (keys_of p)))
  closed_depth detail n e h p = absurd (true≢false (sym e))
  closed_depth free_map n e h p = absurd (true≢false (sym e))
  closed_depth (rows rs) n e h p =
      let members = closed_rows_depth rs (document_of p) no_members (n - 1) e (omega arith) (omega arith) in omega arith

  closed_rows_depth : (rs : Rows) (xs : Slots) (ms : Members) (n : ℕ) → are_closed rs ≡ true → rows_nesting rs ≤ n → members_depth ms ≤ n
      → members_depth (with_rows rs xs ms) ≤ n
  closed_rows_depth no_rows xs ms n e h k = k
  closed_rows_depth (row name second presence s rs) no_slots ms n e h k = k
  closed_rows_depth (row name second presence s rs) (slot x xs) ms n e h k =
      let b = and_parts (is_closed s) (are_closed rs) e in
      let x_is = slot_holds (IsShallow n (value s)) (closed_depth s n b.0 (omega arith)) x in
      closed_rows_depth rs xs _ n b.1 (omega arith) (with_depth name _ ms n (member_depth presence (value s) x n x_is) k)

-- of what is written
pub closed : (s : Shape) (p : Plain) → is_closed s ≡ true → depth (value s p) ≤ nesting s
closed s p e = closed_depth s (nesting s) e (omega arith) p
