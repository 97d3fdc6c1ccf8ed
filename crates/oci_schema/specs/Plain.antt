-- Trees that are read again from their compact text (RFC 8259).
use Rattle.std.specs.Prelude.{◌≡◌, ◌≤◌, ℕ, false}
use Rattle.serde_json.specs.Data.{Data, depth, Items, items_depth, Members, members_depth}
use Rattle.serde_json.specs.Written.{has_float, items_have_float, members_have_float}
use Rattle.oci_json.specs.Readable.{IsReadable, AreReadable, HoldReadable}

-- its numbers are 64-bit whole ones, the names of its objects ascend, and it nests at most so deep
abbrev pub IsPlain : ℕ → Data → Type 0
IsPlain n d = IsReadable d × (depth d ≤ n) × (has_float d ≡ false)

-- so does each item
abbrev pub ArePlain : ℕ → Items → Type 0
ArePlain n ds = AreReadable ds × (items_depth ds ≤ n) × (items_have_float ds ≡ false)

-- so does the value of each member
abbrev pub HoldPlain : ℕ → Members → Type 0
HoldPlain n ms = HoldReadable ms × (members_depth ms ≤ n) × (members_have_float ms ≡ false)
