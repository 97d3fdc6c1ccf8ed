-- What is read is readable, and so are its parts.
use Rattle.std.proofs.Common.{◌≡◌, ℕ, zero, suc, ◌^◌, ◌<◌, ◌≤◌, ◌-◌, List, Bool, true, false, ◌&&◌, cond, Option, Some, None, option_map, Ordering, Less, Equal, Greater, nat_cmp, nat_lt, nat_le, refl, ◌∙◌, ap, subst, arith}
use Rattle.std.specs.Prelude.{option_and_then, ◌==◌, slice_index, drop, Float}
use Rattle.std.specs.Ordering.{match_ordering, ordering_reverse}
use Rattle.std.specs.Cmp.Lexicographic.{slice_cmp}
use Rattle.std.proofs.lemmas.Cmp.{nat_list_cmp_total}
use Rattle.std.proofs.lemmas.Bool.{and_parts, ltb-true, leb-true}
use Rattle.fast_float.specs.Text.{minus, Parts, scan, digits_of, with_sign}
use Rattle.json.specs.Json as json
use Rattle.json.specs.Lex.{tokens}
use Rattle.serde_json.proofs.Nesting.{depth-read}
use Rattle.serde_json.specs.Data.{Num, unsigned, negative, float, Data, null, boolean, number, string, array, object, Items, no_items, item, Members, no_members, member, put, depth, items_depth, members_depth}
use Rattle.serde_json.specs.Find.{as_array, as_object}
use Rattle.serde_json.specs.Read.{number_from, number_of, float_of, is_integer, of_json, of_items, of_members, max_depth, read}
use Rattle.oci_json.specs.Readable.{IsHeld, IsBefore, IsInOrder, IsReadable, AreReadable, HoldReadable}
use Rattle.oci_json.proofs.Meanings.{OfSome, EachOf, EachMemberOf}

-- ---- what is read

-- what is made of what may be there
of_map : {A B : Type 0} (P : A → Type 0) (Q : B → Type 0) (f : A → B) → ((a : A) → P a → Q (f a)) → (o : Option A) → OfSome P o → OfSome Q (option_map f o)
of_map P Q f h None x = tt
of_map P Q f h (Some a) x = h a x

-- what may be made of what may be there
of_and_then : {A B : Type 0} (P : A → Type 0) (Q : B → Type 0) (f : A → Option B) → ((a : A) → P a → OfSome Q (f a)) → (o : Option A) → OfSome P o → OfSome Q (option_and_then f o)
of_and_then P Q f h None x = tt
of_and_then P Q f h (Some a) x = h a x

-- a name that stands before a member and the others stands before them once the member is put in
before_put : (l k : List ℕ) (d : Data) (ms : Members) → slice_cmp nat_cmp l k ≡ Less → IsBefore l ms → IsBefore l (put k d ms)
before_put l k d no_members e h = (e, tt)
before_put l k d (member m c ms) e h = here (slice_cmp nat_cmp k m) (before_put l k d ms e h.1)
  where
    here : (o : Ordering) → IsBefore l (put k d ms) → IsBefore l (match_ordering o (member k d (member m c ms)) (member m d ms) (member m c (put k d ms)))
    here Less rest = (e, h)
    here Equal rest = h
    here Greater rest = (h.0, rest)

-- a name before the first stands before the rest
pub before_rest : (k l : List ℕ) (ms : Members) → slice_cmp nat_cmp k l ≡ Less → IsBefore l ms → IsBefore k ms
before_rest k l no_members e h = tt
before_rest k l (member m d ms) e h = (nat_list_cmp_total.trans k l m e h.0, before_rest k l ms e h.1)

-- a member is put in its place
pub put_in_order : (k : List ℕ) (d : Data) (ms : Members) → IsInOrder ms → IsInOrder (put k d ms)
put_in_order k d no_members h = (tt, tt)
put_in_order k d (member l e ms) h = here (slice_cmp nat_cmp k l) refl (put_in_order k d ms h.1)
  where
    here : (o : Ordering) → slice_cmp nat_cmp k l ≡ o → IsInOrder (put k d ms) → IsInOrder (match_ordering o (member k d (member l e ms)) (member l d ms) (member l e (put k d ms)))
    here Less is rest = ((is, before_rest k l ms is h.0), h)
    here Equal is rest = h
    here Greater is rest = (before_put l k d ms (nat_list_cmp_total.antisymm l k ∙ ap ordering_reverse is) h.0, rest)

-- a tree that is put in is one of the trees that are held
pub put_holds : (k : List ℕ) (d : Data) (ms : Members) → IsReadable d → HoldReadable ms → HoldReadable (put k d ms)
put_holds k d no_members is h = (is, tt)
put_holds k d (member l e ms) is h = here (slice_cmp nat_cmp k l) (put_holds k d ms is h.1)
  where
    here : (o : Ordering) → HoldReadable (put k d ms) → HoldReadable (match_ordering o (member k d (member l e ms)) (member l d ms) (member l e (put k d ms)))
    here Less rest = (is, h)
    here Equal rest = (is, h.1)
    here Greater rest = (h.0, rest)

-- digits that are kept without a sign fit 64 bits
held_unsigned : (b : Bool) (n : ℕ) (o : Option Num) → (b ≡ true → n < 2 ^ 64) → OfSome IsHeld o → OfSome IsHeld (cond b (Some (unsigned n)) o)
held_unsigned true n o h k = h refl
held_unsigned false n o h k = k

-- digits that are kept with a sign fit 64 bits
held_negative : (b : Bool) (n : ℕ) (o : Option Num) → (b ≡ true → (0 < n) × (n ≤ 2 ^ 63)) → OfSome IsHeld o → OfSome IsHeld (cond b (Some (negative (with_sign true n))) o)
held_negative true zero o h k = absurd (omega (arith, (h refl).0))
held_negative true (suc n) o h k = omega (arith, (h refl).1)
held_negative false n o h k = k

-- a number that is no whole one has no bound
held_float : (b : Bool) (x : Float) → OfSome IsHeld (cond b (Some (float x)) None)
held_float true x = tt
held_float false x = tt

-- the number of a text in its parts
held_from : (sign : Bool) (p : Parts) → OfSome IsHeld (number_from sign p)
held_from false p =
    held_unsigned (is_integer p && nat_lt (digits_of p) (2 ^ 64)) (digits_of p) (float_of false p)
    (λ e. ltb-true (digits_of p) (2 ^ 64) (and_parts (is_integer p) _ e).1) (held_float _ _)
held_from true p =
    held_negative (is_integer p && nat_lt 0 (digits_of p) && nat_le (digits_of p) (2 ^ 63)) (digits_of p) (float_of true p)
    (λ e. let b = and_parts (is_integer p && nat_lt 0 (digits_of p)) (nat_le (digits_of p) (2 ^ 63)) e in
    let c = and_parts (is_integer p) (nat_lt 0 (digits_of p)) b.0 in
    (ltb-true 0 (digits_of p) c.1, leb-true (digits_of p) (2 ^ 63) b.1)) (held_float _ _)

-- either way
held_if : (b : Bool) (o p : Option Num) → OfSome IsHeld o → OfSome IsHeld p → OfSome IsHeld (cond b o p)
held_if true o p h k = h
held_if false o p h k = k

-- the number of a text
held : (s : List ℕ) → OfSome IsHeld (number_of s)
unfolding number_of
held s = held_if (slice_index s 0 == minus) _ _ (held_from true (scan (drop 1 s))) (held_from false (scan s))

-- what is made of JSON
mutual
  tree_of_json : (j : json.Json) → OfSome IsReadable (of_json j)
  tree_of_json json.null = tt
  tree_of_json (json.boolean b) = tt
  tree_of_json (json.number s) = of_map IsHeld IsReadable number (λ n h. h) (number_of s) (held s)
  tree_of_json (json.string s) = tt
  tree_of_json (json.array js) = of_map AreReadable IsReadable array (λ ds h. h) (of_items js) (trees_of_items js)
  tree_of_json (json.object ms) = of_map (λ ms. IsInOrder ms × HoldReadable ms) IsReadable object (λ ms h. h) (of_members ms no_members) (trees_of_members ms no_members (tt, tt))

  trees_of_items : (js : json.Items) → OfSome AreReadable (of_items js)
  trees_of_items json.no_items = tt
  trees_of_items (json.item j js) =
      of_and_then IsReadable AreReadable (λ d. option_map (item d) (of_items js)) (λ d h. of_map AreReadable AreReadable (item d) (λ ds k. (h, k)) (of_items js) (trees_of_items js)) (of_json j) (tree_of_json j)

  trees_of_members : (ms : json.Members) (found : Members) → IsInOrder found × HoldReadable found → OfSome (λ ms. IsInOrder ms × HoldReadable ms) (of_members ms found)
  trees_of_members json.no_members found h = h
  trees_of_members (json.member k j ms) found h =
      of_and_then IsReadable (λ ms. IsInOrder ms × HoldReadable ms) (λ d. of_members ms (put k d found))
      (λ d is. trees_of_members ms (put k d found) (put_in_order k d found h.0, put_holds k d found is h.1)) (of_json j) (tree_of_json j)

-- what is read
pub tree_read : (t : List ℕ) → OfSome IsReadable (read t)
tree_read t = of_some (option_and_then (λ p. json.if_last p.0 p.1) (json.value max_depth (tokens t)))
  where
    of_some : (o : Option json.Json) → OfSome IsReadable (option_and_then of_json o)
    of_some None = tt
    of_some (Some j) = tree_of_json j

-- ---- how deep a tree nests

-- a tree, and how deep it nests at most
abbrev pub IsWithin : ℕ → Data → Type 0
IsWithin n d = IsReadable d × (depth d ≤ n)

-- what is read nests no deeper than a text may
pub read_within : (t : List ℕ) (d : Data) → read t ≡ Some d → IsWithin max_depth d
read_within t d e = (subst (OfSome IsReadable) e (tree_read t), depth-read t d e)

-- of trees, each
each_within : (ds : Items) (n : ℕ) → AreReadable ds → items_depth ds ≤ n → EachOf (IsWithin n) ds
each_within no_items n h l = tt
each_within (item d ds) n h l = ((h.0, omega (arith, l)), each_within ds n h.1 (omega (arith, l)))

-- of the trees of members, each
each_member_within : (ms : Members) (n : ℕ) → HoldReadable ms → members_depth ms ≤ n → EachMemberOf (IsWithin n) ms
each_member_within no_members n h l = tt
each_member_within (member k d ms) n h l = ((h.0, omega (arith, l)), each_member_within ms n h.1 (omega (arith, l)))

-- the tree that is an array
the_array : (d : Data) (ds : Items) → as_array d ≡ Some ds → d ≡ array ds
the_array null ds e = cc
the_array (boolean b) ds e = cc
the_array (number n) ds e = cc
the_array (string s) ds e = cc
the_array (array es) ds e = cc
the_array (object ms) ds e = cc

-- the tree that is an object
pub the_object : (d : Data) (ms : Members) → as_object d ≡ Some ms → d ≡ object ms
the_object null ms e = cc
the_object (boolean b) ms e = cc
the_object (number n) ms e = cc
the_object (string s) ms e = cc
the_object (array ds) ms e = cc
the_object (object ns) ms e = cc

-- the parts of an array nest one less
pub array_within : (d : Data) (ds : Items) (n : ℕ) → as_array d ≡ Some ds → IsWithin n d → EachOf (IsWithin (n - 1)) ds
array_within d ds n e h =
    let k : IsWithin n (array ds) = subst (IsWithin n) (the_array d ds e) h in each_within ds (n - 1) k.0 (omega (arith, k.1))

-- the members of an object nest one less, and are in order
pub object_within : (d : Data) (ms : Members) (n : ℕ) → as_object d ≡ Some ms → IsWithin n d → EachMemberOf (IsWithin (n - 1)) ms × IsInOrder ms
object_within d ms n e h =
    let k : IsWithin n (object ms) = subst (IsWithin n) (the_object d ms e) h in (each_member_within ms (n - 1) k.0.1 (omega (arith, k.1)), k.0.0)
