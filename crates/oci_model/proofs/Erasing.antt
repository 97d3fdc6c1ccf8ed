-- Erasing changes nothing in what has no float, changes nothing twice, and keeps whether there is a float.
use Rattle.std.proofs.Common.{◌≡◌, ℕ, List, [], ◌∷◌, false, Option, Some, None, option_map, refl, ap, true≢false}
use Rattle.std.proofs.lemmas.Bool.{or_parts}
use Rattle.serde_json.specs.Data.{Num, unsigned, negative, float, Data, null, boolean, number, string, array, object, Items, no_items, item, Members, no_members, member}
use Rattle.serde_json.specs.Find.{is_float}
use Rattle.serde_json.specs.Written.{has_float, items_have_float, members_have_float}
use Rattle.oci_model.specs.Erased.{erased_number, erased, erased_items, erased_members, erased_values}
use Rattle.oci_model.specs.Means.{unless_null, free_values}

-- a whole number stays
number_as_it_was : (n : Num) → is_float n ≡ false → erased_number n ≡ n
number_as_it_was (unsigned n) e = refl
number_as_it_was (negative z) e = refl
number_as_it_was (float x) e = absurd (true≢false e)

-- so does a tree of them
mutual
  pub as_it_was : (d : Data) → has_float d ≡ false → erased d ≡ d
  as_it_was null e = refl
  as_it_was (boolean b) e = refl
  as_it_was (number n) e = ap number (number_as_it_was n e)
  as_it_was (string s) e = refl
  as_it_was (array ds) e = ap array (items_as_they_were ds e)
  as_it_was (object ms) e = ap object (members_as_they_were ms e)

  items_as_they_were : (ds : Items) → items_have_float ds ≡ false → erased_items ds ≡ ds
  items_as_they_were no_items e = refl
  items_as_they_were (item d ds) e =
      let n = or_parts (has_float d) (items_have_float ds) e in
      let f = as_it_was d n.0 in
      let g = items_as_they_were ds n.1 in
      cc

  pub members_as_they_were : (ms : Members) → members_have_float ms ≡ false → erased_members ms ≡ ms
  members_as_they_were no_members e = refl
  members_as_they_were (member k d ms) e =
      let n = or_parts (has_float d) (members_have_float ms) e in
      let f = as_it_was d n.0 in
      let g = members_as_they_were ms n.1 in
      cc

-- so does what may be null
pub unless_null_as_it_was : (d : Data) → erased d ≡ d → option_map erased (unless_null d) ≡ unless_null d
unless_null_as_it_was null e = refl
unless_null_as_it_was (boolean b) e = ap Some e
unless_null_as_it_was (number n) e = ap Some e
unless_null_as_it_was (string s) e = ap Some e
unless_null_as_it_was (array ds) e = ap Some e
unless_null_as_it_was (object ms) e = ap Some e

-- so do the values of a free map
pub erased_free_values : (ms : Members) → members_have_float ms ≡ false → erased_values (free_values ms) ≡ free_values ms
erased_free_values no_members e = refl
erased_free_values (member k d ms) e =
    let n = or_parts (has_float d) (members_have_float ms) e in
    let f = unless_null_as_it_was d (as_it_was d n.0) in
    let g = erased_free_values ms n.1 in
    cc

-- an erased number is as erased
number_once : (n : Num) → erased_number (erased_number n) ≡ erased_number n
number_once (unsigned n) = refl
number_once (negative z) = refl
number_once (float x) = refl

-- and is a float where it was one
number_kept : (n : Num) → is_float (erased_number n) ≡ is_float n
number_kept (unsigned n) = refl
number_kept (negative z) = refl
number_kept (float x) = refl

mutual
  -- what is erased is as erased
  pub once : (d : Data) → erased (erased d) ≡ erased d
  once null = refl
  once (boolean b) = refl
  once (number n) = ap number (number_once n)
  once (string s) = refl
  once (array ds) = ap array (items_once ds)
  once (object ms) = ap object (members_once ms)

  items_once : (ds : Items) → erased_items (erased_items ds) ≡ erased_items ds
  items_once no_items = refl
  items_once (item d ds) = let f = once d in let g = items_once ds in cc

  members_once : (ms : Members) → erased_members (erased_members ms) ≡ erased_members ms
  members_once no_members = refl
  members_once (member k d ms) = let f = once d in let g = members_once ms in cc

mutual
  -- the erased tree has a float where the tree has one
  pub has_float-erased : (d : Data) → has_float (erased d) ≡ has_float d
  has_float-erased null = refl
  has_float-erased (boolean b) = refl
  has_float-erased (number n) = number_kept n
  has_float-erased (string s) = refl
  has_float-erased (array ds) = items_have_float-erased ds
  has_float-erased (object ms) = members_have_float-erased ms

  items_have_float-erased : (ds : Items) → items_have_float (erased_items ds) ≡ items_have_float ds
  items_have_float-erased no_items = refl
  items_have_float-erased (item d ds) = rw (has_float-erased d, items_have_float-erased ds) refl

  pub members_have_float-erased : (ms : Members) → members_have_float (erased_members ms) ≡ members_have_float ms
  members_have_float-erased no_members = refl
  members_have_float-erased (member k d ms) = rw (has_float-erased d, members_have_float-erased ms) refl

-- so is a value that may be none
value_once : (o : Option Data) → option_map erased (option_map erased o) ≡ option_map erased o
value_once None = refl
value_once (Some d) = ap Some (once d)

-- the values of a plain tree of free values are erased
pub erased_values-once : (es : List (List ℕ × Option Data)) → erased_values (erased_values es) ≡ erased_values es
erased_values-once [] = refl
erased_values-once (e ∷ es) = let f = value_once e.1 in let g = erased_values-once es in cc
