-- When two JSON trees count as equal: all numbers but the 64-bit whole ones are one and the same.
use Rattle.std.specs.Prelude.{◌&&◌, Bool, true, false, not, nat_eq, bytes_eq}
use Rattle.std.specs.Ordering.{int_eq}
use Rattle.serde_json.specs.Data.{Num, unsigned, negative, float, Data, null, boolean, number, string, array, object, Items, no_items, item, Members, no_members, member}

-- the same 64-bit whole number, or both none
abbrev pub is_same_number : Num → Num → Bool
is_same_number (unsigned m) (unsigned n) = nat_eq m n
is_same_number (negative y) (negative z) = int_eq y z
is_same_number (float x) (float y) = true
is_same_number _ _ = false

-- of one kind, and the same in each part
abbrev mutual
  pub is_same : Data → Data → Bool
  is_same null null = true
  is_same (boolean true) (boolean b) = b
  is_same (boolean false) (boolean b) = not b
  is_same (number m) (number n) = is_same_number m n
  is_same (string s) (string t) = bytes_eq s t
  is_same (array ds) (array es) = are_same ds es
  is_same (object ms) (object ns) = hold_same ms ns
  is_same _ _ = false

  pub are_same : Items → Items → Bool
  are_same no_items no_items = true
  are_same (item d ds) (item e es) = is_same d e && are_same ds es
  are_same _ _ = false

  pub hold_same : Members → Members → Bool
  hold_same no_members no_members = true
  hold_same (member k d ms) (member l e ns) = bytes_eq k l && is_same d e && hold_same ms ns
  hold_same _ _ = false
