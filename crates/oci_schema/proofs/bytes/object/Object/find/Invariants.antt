use Rattle.std.proofs.Common.{◌≡◌, drop}
use Rattle.serde_json.specs.Data.{Data}
use Rattle.serde_json.specs.Find.{get}
use Rattle.oci_schema.specs.Objects.{IsObject, Finds}
use Rattle.oci_schema.proofs.bytes.object.Object.find.Given as goal

abbrev pub invariant-loop-slot : goal.invariant-loop-slot
invariant-loop-slot l = record {
  same : l.at ≡ l.slot-index;
  finds : (d : Data) → IsObject l.self d → Finds l.name (drop l.slot-index l.self.slots.items) (get l.name d);
}
