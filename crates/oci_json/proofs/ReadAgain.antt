-- A tree that was read, and has no float, is read again from its compact text.
use Rattle.std.proofs.Common.{◌≡◌, suc, ◌≤◌, pos, negsuc, ℕ, List, [], false, Some, option_map, Less, Greater, nat_cmp, refl, ◌∙◌, sym, ap, subst, true≢false, arith, append-nil}
use Rattle.std.specs.Prelude.{option_and_then}
use Rattle.std.specs.Ordering.{ordering_reverse}
use Rattle.std.specs.Cmp.Lexicographic.{slice_cmp}
use Rattle.std.proofs.lemmas.Cmp.{nat_list_cmp_total}
use Rattle.std.proofs.lemmas.Bool.{or_parts}
use Rattle.json.specs.Json as json
use Rattle.json.specs.Lex.{tokens}
use Rattle.json.specs.Print.{IsNumber}
use Rattle.json.specs.Tree as tree
use Rattle.json.proofs.Printed.Tokens.{tokens-print}
use Rattle.json.proofs.Printed.Trees.{ArePrintable-json_tokens, value-json_tokens}
use Rattle.json.proofs.Printed.Decimals.{IsNumber-decimal, IsNumber-signed_decimal}
use Rattle.serde_json.proofs.Texts.{print-outline}
use Rattle.serde_json.proofs.Numbers.{number_of-decimal, number_of-negative}
use Rattle.serde_json.specs.Data.{Num, unsigned, negative, float, Data, null, boolean, number, string, array, object, Items, no_items, item, Members, no_members, member, put, depth, items_depth, members_depth}
use Rattle.serde_json.specs.Find.{is_float}
use Rattle.serde_json.specs.Read.{number_of, of_json, of_items, of_members, max_depth, read}
use Rattle.serde_json.specs.Written.{has_float, items_have_float, members_have_float, number_text, compact_text, outline, items_outline, members_outline}
use Rattle.oci_json.specs.Readable.{IsHeld, IsBefore, IsInOrder, IsReadable, AreReadable, HoldReadable}
use Rattle.oci_json.proofs.Trees.{read_within}

-- ---- a tree is made again from its outline

-- members behind members
abbrev append : Members → Members → Members
append no_members ns = ns
append (member k d ms) ns = member k d (append ms ns)

-- a member at the end is one before the rest
append_one : (ms : Members) (k : List ℕ) (d : Data) (ns : Members) → append (append ms (member k d no_members)) ns ≡ append ms (member k d ns)
append_one no_members k d ns = refl
append_one (member l e ms) k d ns = ap (member l e) (append_one ms k d ns)

-- no members behind
append_none : (ms : Members) → append ms no_members ≡ ms
append_none no_members = refl
append_none (member l e ms) = ap (member l e) (append_none ms)

-- a name before all stands before one in the middle
before_middle : (l : List ℕ) (ms : Members) (k : List ℕ) (d : Data) (ns : Members) → IsBefore l (append ms (member k d ns)) → slice_cmp nat_cmp l k ≡ Less
before_middle l no_members k d ns h = h.0
before_middle l (member m e ms) k d ns h = before_middle l ms k d ns h.1

-- a member is put behind those before it
put_last : (ms : Members) (k : List ℕ) (d : Data) (ns : Members) → IsInOrder (append ms (member k d ns)) → put k d ms ≡ append ms (member k d no_members)
put_last no_members k d ns h = refl
put_last (member l e ms) k d ns h =
    let above : slice_cmp nat_cmp k l ≡ Greater = nat_list_cmp_total.antisymm k l ∙ ap ordering_reverse (before_middle l ms k d ns h.0) in
    rw above (ap (member l e) (put_last ms k d ns h.1))

-- a number is read from its digits
number_again : (n : Num) → IsHeld n → is_float n ≡ false → number_of (number_text n) ≡ Some n
number_again (unsigned n) h none = number_of-decimal n h
number_again (negative (pos n)) h none = absurd h
number_again (negative (negsuc n)) h none = number_of-negative n h
number_again (float x) h none = absurd (true≢false none)

-- the tree of its outline is the tree
mutual
  made_again : (d : Data) → IsReadable d → has_float d ≡ false → of_json (outline d) ≡ Some d
  made_again null h none = refl
  made_again (boolean b) h none = refl
  made_again (number n) h none = ap (option_map number) (number_again n h none)
  made_again (string s) h none = refl
  made_again (array ds) h none = ap (option_map array) (items_again ds h none)
  made_again (object ms) h none = ap (option_map object) (members_again no_members ms h.0 h.1 none)

  items_again : (ds : Items) → AreReadable ds → items_have_float ds ≡ false → of_items (items_outline ds) ≡ Some ds
  items_again no_items h none = refl
  items_again (item d ds) h none =
      let n = or_parts (has_float d) (items_have_float ds) none in
      ap (option_and_then (λ e. option_map (item e) (of_items (items_outline ds)))) (made_again d h.0 n.0)
      ∙ ap (option_map (item d)) (items_again ds h.1 n.1)

  members_again : (found ms : Members) → IsInOrder (append found ms) → HoldReadable ms → members_have_float ms ≡ false
      → of_members (members_outline ms) found ≡ Some (append found ms)
  members_again found no_members order h none = ap Some (sym (append_none found))
  members_again found (member k d ms) order h none =
      let n = or_parts (has_float d) (members_have_float ms) none in
      let e = append_one found k d ms in
      ap (option_and_then (λ e. of_members (members_outline ms) (put k e found))) (made_again d h.0 n.0)
      ∙ ap (of_members (members_outline ms)) (put_last found k d ms order)
      ∙ members_again (append found (member k d no_members)) ms (subst IsInOrder (sym e) order) h.1 n.1 ∙ ap Some e

-- ---- its text is read

-- the digits of a number are a number of JSON
number_is : (n : Num) → IsHeld n → is_float n ≡ false → IsNumber (number_text n)
number_is (unsigned n) h none = IsNumber-decimal n h
number_is (negative (pos n)) h none = absurd h
number_is (negative (negsuc n)) h none = IsNumber-signed_decimal (negsuc n) h
number_is (float x) h none = absurd (true≢false none)

-- so are those of all numbers of a tree
mutual
  numbers : (d : Data) → IsReadable d → has_float d ≡ false → tree.HasNumbers (outline d)
  numbers null h none = tt
  numbers (boolean b) h none = tt
  numbers (number n) h none = number_is n h none
  numbers (string s) h none = tt
  numbers (array ds) h none = numbers_in_items ds h none
  numbers (object ms) h none = numbers_in_members ms h.1 none

  numbers_in_items : (ds : Items) → AreReadable ds → items_have_float ds ≡ false → tree.ItemsHaveNumbers (items_outline ds)
  numbers_in_items no_items h none = tt
  numbers_in_items (item d ds) h none =
      let n = or_parts (has_float d) (items_have_float ds) none in (numbers d h.0 n.0, numbers_in_items ds h.1 n.1)

  numbers_in_members : (ms : Members) → HoldReadable ms → members_have_float ms ≡ false → tree.MembersHaveNumbers (members_outline ms)
  numbers_in_members no_members h none = tt
  numbers_in_members (member k d ms) h none =
      let n = or_parts (has_float d) (members_have_float ms) none in (numbers d h.0 n.0, numbers_in_members ms h.1 n.1)

-- the outline nests as the tree does
mutual
  same_depth : (d : Data) → tree.depth (outline d) ≡ depth d
  same_depth null = refl
  same_depth (boolean b) = refl
  same_depth (number n) = refl
  same_depth (string s) = refl
  same_depth (array ds) = ap suc (same_items_depth ds)
  same_depth (object ms) = ap suc (same_members_depth ms)

  same_items_depth : (ds : Items) → tree.items_depth (items_outline ds) ≡ items_depth ds
  same_items_depth no_items = refl
  same_items_depth (item d ds) = rw (same_depth d, same_items_depth ds) refl

  same_members_depth : (ms : Members) → tree.members_depth (members_outline ms) ≡ members_depth ms
  same_members_depth no_members = refl
  same_members_depth (member k d ms) = rw (same_depth d, same_members_depth ms) refl

-- the tokens of the text are those of the outline
compact_tokens : (d : Data) → IsReadable d → has_float d ≡ false → tokens (compact_text d) ≡ tree.json_tokens (outline d)
compact_tokens d is none =
    ap tokens (sym (print-outline d)) ∙ tokens-print (tree.json_tokens (outline d)) (ArePrintable-json_tokens (outline d) (numbers d is none))

-- a tree that nests no deeper than a text may
pub compact_read : (d : Data) → IsReadable d → depth d ≤ max_depth → has_float d ≡ false → read (compact_text d) ≡ Some d
compact_read d is shallow none =
    let e = compact_tokens d is none ∙ sym (append-nil (tree.json_tokens (outline d))) in
    ap (λ o. option_and_then of_json (option_and_then (λ p. json.if_last p.0 p.1) o))
    (ap (json.value max_depth) e ∙ value-json_tokens (outline d) max_depth [] (omega (arith, same_depth d, shallow)))
    ∙ made_again d is none

-- a tree that was read
pub read_again : (t : List ℕ) (d : Data) → read t ≡ Some d → has_float d ≡ false → read (compact_text d) ≡ Some d
read_again t d e none = let h = read_within t d e in compact_read d h.0 h.1 none
