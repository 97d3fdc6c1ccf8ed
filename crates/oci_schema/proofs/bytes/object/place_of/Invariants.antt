use Rattle.std.proofs.Common.{◌≡◌, ℕ, ◌+◌, drop}
use Rattle.oci_schema.specs.Objects.{IsPlaceOf}
use Rattle.oci_schema.proofs.bytes.object.place_of.Given as goal

abbrev pub invariant-loop-slot : goal.invariant-loop-slot
invariant-loop-slot l = record {
  same : l.at ≡ l.slot-index;
  before : (j : ℕ) → IsPlaceOf l.name (drop l.slot-index l.slots) j → IsPlaceOf l.name l.slots (l.at + j);
}
