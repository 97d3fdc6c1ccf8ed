-- What is written holds no numbers but 64-bit whole ones.
use Rattle.std.proofs.Common.{◌≡◌, ℕ, ℤ, pos, negsuc, List, [], ◌∷◌, Bool, true, false, ◌||◌, cond, Option, Some, None, unwrap_or, Ordering, Less, Equal, Greater, nat_cmp, refl, sym, subst}
use Rattle.std.specs.Prelude.{⊤}
use Rattle.std.specs.Ordering.{match_ordering}
use Rattle.std.specs.Cmp.Lexicographic.{slice_cmp}
use Rattle.serde_json.specs.Data.{Data, null, Members, no_members, member, put}
use Rattle.serde_json.specs.Find.{is_float, of_integer}
use Rattle.serde_json.specs.Written.{has_float, items_have_float, members_have_float}
use Rattle.oci_model.specs.Plain as plain
use Rattle.oci_model.specs.Plain.{Plain, Plains, no_plains, Entries, no_entries, entry, Slot, empty, filled, Slots, no_slots, slot, whole_of, set_of, keys_of, list_of, map_of, document_of}
use Rattle.oci_model.specs.Shape.{Presence, required, defaulted, optional, nullable, unless_empty, Shape, text, truth, whole, named, open_name, digest_text, cpu_text, cap_set, list, map, key_set, detail, free_map, rows, Rows, no_rows, row}
use Rattle.oci_model.specs.Fits.{Each, EachEntry, IfFilled}
use Rattle.oci_model.specs.Value.{value, capability_texts, sorted, empty_objects, each_value, each_entry_value, is_empty_array, member_value, with_member, with_rows}
use Rattle.oci_model.specs.Writable.{Writable, AreWritable}

neither : (a b : Bool) → (a || b) ≡ false → (a ≡ false) × (b ≡ false)
neither false false h = (refl, refl)
neither false true h = cc
neither true b h = cc

none_of : (a b : Bool) → a ≡ false → b ≡ false → (a || b) ≡ false
none_of true b e f = e
none_of false b e f = f

integer : (z : ℤ) → is_float (of_integer z) ≡ false
integer (pos n) = refl
integer (negsuc n) = refl

texts : (table : List (List ℕ)) (bs : List Bool) → items_have_float (capability_texts table bs) ≡ false
texts [] bs = refl
texts (t ∷ table) [] = refl
texts (t ∷ table) (true ∷ bs) = texts table bs
texts (t ∷ table) (false ∷ bs) = texts table bs

objects : (ks : List (List ℕ)) → members_have_float (empty_objects ks) ≡ false
objects [] = refl
objects (k ∷ ks) = objects ks

each : (W : Plain → Type 0) (v : Plain → Data) → ((p : Plain) → W p → has_float (v p) ≡ false) → (ps : Plains) → Each W ps → items_have_float (each_value v ps) ≡ false
each W v f no_plains w = refl
each W v f (plain.plain p ps) w = none_of _ _ (f p w.0) (each W v f ps w.1)

each_in_map : (W : Plain → Type 0) (v : Plain → Data) → ((p : Plain) → W p → has_float (v p) ≡ false) → (es : Entries) → EachEntry W es
    → members_have_float (each_entry_value v es) ≡ false
each_in_map W v f no_entries w = refl
each_in_map W v f (entry k p es) w = none_of _ _ (f p w.0) (each_in_map W v f es w.1)

put_none : (k : List ℕ) (d : Data) (ms : Members) → has_float d ≡ false → members_have_float ms ≡ false → members_have_float (put k d ms) ≡ false
put_none k d no_members e f = none_of _ _ e f
put_none k d (member l c ms) e f = here (slice_cmp nat_cmp k l) (put_none k d ms e (neither (has_float c) (members_have_float ms) f).1)
  where
    here : (o : Ordering) → members_have_float (put k d ms) ≡ false → members_have_float (match_ordering o (member k d (member l c ms)) (member l d ms) (member l c (put k d ms))) ≡ false
    here Less rest = none_of _ _ e f
    here Equal rest = none_of _ _ e (neither (has_float c) (members_have_float ms) f).1
    here Greater rest = none_of _ _ (neither (has_float c) (members_have_float ms) f).0 rest

abbrev NoneIn : Option Data → Type 0
NoneIn None = ⊤
NoneIn (Some d) = has_float d ≡ false

put_member : (k : List ℕ) (o : Option Data) (ms : Members) → NoneIn o → members_have_float ms ≡ false → members_have_float (with_member k o ms) ≡ false
put_member k None ms e f = f
put_member k (Some d) ms e f = put_none k d ms e f

either : (b : Bool) (d : Data) → has_float d ≡ false → NoneIn (cond b None (Some d))
either true d e = tt
either false d e = e

in_member : (presence : Presence) (W : Plain → Type 0) (v : Plain → Data) → ((p : Plain) → W p → has_float (v p) ≡ false) → (x : Slot) → IfFilled W x → NoneIn (member_value presence v x)
in_member required W v f empty w = tt
in_member required W v f (filled p) w = f p w
in_member (defaulted d) W v f empty w = tt
in_member (defaulted d) W v f (filled p) w = f p w
in_member optional W v f empty w = tt
in_member optional W v f (filled p) w = f p w
in_member nullable W v f empty w = refl
in_member nullable W v f (filled p) w = f p w
in_member unless_empty W v f empty w = tt
in_member unless_empty W v f (filled p) w = either (is_empty_array (v p)) (v p) (f p w)

mutual
  pub none_written : (s : Shape) (p : Plain) → Writable s p → has_float (value s p) ≡ false
  none_written text p w = refl
  none_written truth p w = refl
  none_written (whole low high) p w = integer (whole_of p)
  none_written (named table) p w = refl
  none_written (open_name table) p w = refl
  none_written digest_text p w = refl
  none_written cpu_text p w = refl
  none_written (cap_set table) p w = texts table (set_of p)
  none_written (list s) p w = each (λ q. Writable s q) (value s) (λ q. none_written s q) (list_of p) w
  none_written (map s) p w = each_in_map (λ q. Writable s q) (value s) (λ q. none_written s q) (map_of p) w
  none_written key_set p w = objects (sorted (keys_of p))
  none_written detail p w = subst (λ o. has_float (unwrap_or o null) ≡ false) (sym w.1) w.2
  none_written free_map p w = w
  none_written (rows rs) p w = none_in_rows rs (document_of p) no_members w refl

  none_in_rows : (rs : Rows) (xs : Slots) (ms : Members) → AreWritable rs xs → members_have_float ms ≡ false → members_have_float (with_rows rs xs ms) ≡ false
  none_in_rows no_rows xs ms w e = e
  none_in_rows (row name second presence s rs) no_slots ms w e = e
  none_in_rows (row name second presence s rs) (slot x xs) ms w e =
      none_in_rows rs xs _ w.1 (put_member name _ ms (in_member presence (λ q. Writable s q) (value s) (λ q. none_written s q) x w.0) e)
