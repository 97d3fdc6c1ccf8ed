-- Trees that some text may be read as, if they nest no deeper than a text may (RFC 8259, section 4, "Objects", and section 6, "Numbers").
use Rattle.std.specs.Prelude.{◌≡◌, ◌<◌, ◌^◌, ℕ, pos, negsuc, List, ⊤}
use Rattle.std.specs.declared.cmp.Ordering.TheVariants.{Less}
use Rattle.std.specs.Ordering.{nat_cmp}
use Rattle.std.specs.Cmp.Lexicographic.{slice_cmp}
use Rattle.serde_json.specs.Data.{Num, unsigned, negative, float, Data, null, boolean, number, string, array, object, Items, no_items, item, Members, no_members, member}

-- a number that fits 64 bits, or is no whole one
abbrev pub IsHeld : Num → Type 0
IsHeld (unsigned n) = n < 2 ^ 64
IsHeld (negative (pos n)) = ⊥
IsHeld (negative (negsuc n)) = n < 2 ^ 63
IsHeld (float x) = ⊤

-- the name stands before each of the members', by bytes
abbrev pub IsBefore : List ℕ → Members → Type 0
IsBefore k no_members = ⊤
IsBefore k (member l d ms) = (slice_cmp nat_cmp k l ≡ Less) × IsBefore k ms

-- each name stands before those after it, so that none is there twice
abbrev pub IsInOrder : Members → Type 0
IsInOrder no_members = ⊤
IsInOrder (member k d ms) = IsBefore k ms × IsInOrder ms

-- its numbers fit 64 bits, and the names of its objects are in order
abbrev mutual
  pub IsReadable : Data → Type 0
  IsReadable null = ⊤
  IsReadable (boolean b) = ⊤
  IsReadable (number n) = IsHeld n
  IsReadable (string s) = ⊤
  IsReadable (array ds) = AreReadable ds
  IsReadable (object ms) = IsInOrder ms × HoldReadable ms

  pub AreReadable : Items → Type 0
  AreReadable no_items = ⊤
  AreReadable (item d ds) = IsReadable d × AreReadable ds

  pub HoldReadable : Members → Type 0
  HoldReadable no_members = ⊤
  HoldReadable (member k d ms) = IsReadable d × HoldReadable ms
