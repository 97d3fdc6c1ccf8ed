-- Trees count as equal exactly if they are equal once erased.
use Rattle.std.proofs.Common.{◌≡◌, Bool, true, false, ◌&&◌, bytes_eq, refl, ◌∙◌, sym, ap, true≢false}
use Rattle.std.specs.Prelude.{◌↔◌}
use Rattle.std.proofs.lemmas.Bool.{and_parts}
use Rattle.std.proofs.lemmas.Slice.Eq.{bytes_eq-Decides}
use Rattle.std.proofs.lemmas.Bool.Decides.{Decides-eqb, Decides-int_eq}
use Rattle.serde_json.specs.Data.{Num, unsigned, negative, float, Data, null, boolean, number, string, array, object, Items, no_items, item, Members, no_members, member}
use Rattle.oci_model.specs.Erased.{erased_number, erased, erased_items, erased_members}
use Rattle.oci_model.specs.Alike.{is_same_number, is_same, are_same, hold_same}

-- erasing makes no difference
number_erased : (m n : Num) → is_same_number (erased_number m) (erased_number n) ≡ is_same_number m n
number_erased (unsigned m) (unsigned n) = refl
number_erased (unsigned m) (negative z) = refl
number_erased (unsigned m) (float y) = refl
number_erased (negative y) (unsigned n) = refl
number_erased (negative y) (negative z) = refl
number_erased (negative y) (float z) = refl
number_erased (float x) (unsigned n) = refl
number_erased (float x) (negative z) = refl
number_erased (float x) (float y) = refl

number_itself : (n : Num) → is_same_number n n ≡ true
number_itself (unsigned n) = (Decides-eqb n n).1 refl
number_itself (negative z) = (Decides-int_eq z z).1 refl
number_itself (float x) = refl

number_equal : (m n : Num) → is_same_number m n ≡ true → erased_number m ≡ erased_number n
number_equal (unsigned m) (unsigned n) e = ap unsigned ((Decides-eqb m n).0 e)
number_equal (negative y) (negative z) e = ap negative ((Decides-int_eq y z).0 e)
number_equal (float x) (float y) e = refl
number_equal _ _ e = absurd (true≢false (sym e))

mutual
  same_erased : (d e : Data) → is_same (erased d) (erased e) ≡ is_same d e
  same_erased null null = refl
  same_erased (boolean true) (boolean b) = refl
  same_erased (boolean false) (boolean b) = refl
  same_erased (number m) (number n) = number_erased m n
  same_erased (string s) (string t) = refl
  same_erased (array ds) (array es) = items_erased ds es
  same_erased (object ms) (object ns) = members_erased ms ns
  same_erased _ _ = refl

  items_erased : (ds es : Items) → are_same (erased_items ds) (erased_items es) ≡ are_same ds es
  items_erased no_items no_items = refl
  items_erased (item d ds) (item e es) = rw (same_erased d e, items_erased ds es) refl
  items_erased _ _ = refl

  members_erased : (ms ns : Members) → hold_same (erased_members ms) (erased_members ns) ≡ hold_same ms ns
  members_erased no_members no_members = refl
  members_erased (member k d ms) (member l e ns) = rw (same_erased d e, members_erased ms ns) refl
  members_erased _ _ = refl

mutual
  itself : (d : Data) → is_same d d ≡ true
  itself null = refl
  itself (boolean true) = refl
  itself (boolean false) = refl
  itself (number n) = number_itself n
  itself (string s) = (bytes_eq-Decides s s).1 refl
  itself (array ds) = items_itself ds
  itself (object ms) = members_itself ms

  items_itself : (ds : Items) → are_same ds ds ≡ true
  items_itself no_items = refl
  items_itself (item d ds) = rw (itself d, items_itself ds) refl

  members_itself : (ms : Members) → hold_same ms ms ≡ true
  members_itself no_members = refl
  members_itself (member k d ms) = rw ((bytes_eq-Decides k k).1 refl, itself d, members_itself ms) refl

mutual
  equal : (d e : Data) → is_same d e ≡ true → erased d ≡ erased e
  equal null null k = refl
  equal (boolean true) (boolean true) k = refl
  equal (boolean true) (boolean false) k = absurd (true≢false (sym k))
  equal (boolean false) (boolean true) k = absurd (true≢false (sym k))
  equal (boolean false) (boolean false) k = refl
  equal (number m) (number n) k = ap number (number_equal m n k)
  equal (string s) (string t) k = ap string ((bytes_eq-Decides s t).0 k)
  equal (array ds) (array es) k = ap array (items_equal ds es k)
  equal (object ms) (object ns) k = ap object (members_equal ms ns k)
  equal _ _ k = absurd (true≢false (sym k))

  items_equal : (ds es : Items) → are_same ds es ≡ true → erased_items ds ≡ erased_items es
  items_equal no_items no_items k = refl
  items_equal (item d ds) (item e es) k =
      let b = and_parts (is_same d e) (are_same ds es) k in
      let f = equal d e b.0 in
      let g = items_equal ds es b.1 in
      cc
  items_equal _ _ k = absurd (true≢false (sym k))

  members_equal : (ms ns : Members) → hold_same ms ns ≡ true → erased_members ms ≡ erased_members ns
  members_equal no_members no_members k = refl
  members_equal (member k d ms) (member l e ns) h =
      let b = and_parts (bytes_eq k l && is_same d e) (hold_same ms ns) h in
      let c = and_parts (bytes_eq k l) (is_same d e) b.0 in
      let n = (bytes_eq-Decides k l).0 c.0 in
      let f = equal d e c.1 in
      let g = members_equal ms ns b.1 in
      cc
  members_equal _ _ k = absurd (true≢false (sym k))

pub same_if_equal : (d e : Data) → (is_same d e ≡ true) ↔ (erased d ≡ erased e)
same_if_equal d e =
    (λ k. equal d e k, λ k. sym (same_erased d e) ∙ ap (λ f. is_same (erased d) f) (sym k) ∙ itself (erased d))

pub told : (b : Bool) (d e : Data) → b ≡ is_same d e → (b ≡ true) ↔ (erased d ≡ erased e)
told b d e is = let s = same_if_equal d e in (λ k. s.0 (sym is ∙ k), λ k. is ∙ s.1 k)
