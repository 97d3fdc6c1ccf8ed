use Rattle.std.proofs.Common.{◌≡◌, [], length}
use Rattle.serde_json.specs.Data.{Data}
use Rattle.oci_json_tape.specs.Elements.{BeginsWithData}
use Rattle.oci_schema.specs.Objects.{AreInOrder, fields_in}
use Rattle.oci_schema.proofs.Objects.{PassedSoFar}
use Rattle.oci_schema.proofs.bytes.object.Object.open.Given as goal

abbrev pub invariant-each_member : goal.invariant-each_member
invariant-each_member l = record {
  passed : (d : Data) → BeginsWithData l.fn.element d → PassedSoFar d l.rest l.slots.items l.marks;
  order : AreInOrder l.slots.items;
  unwritten : fields_in l.slots.items ≡ [];
}

abbrev pub decreases-each_member : goal.decreases-each_member
decreases-each_member l = length l.rest
