use Rattle.std.proofs.Common.{◌+◌, ◌*◌, length, drop}
use Rattle.serde_json.specs.Data.{Data}
use Rattle.oci_json_tape.specs.Elements.{BeginsWithData}
use Rattle.oci_schema.specs.Shapes.{part_shape}
use Rattle.oci_schema.specs.Fields.{AreAccepted}
use Rattle.oci_schema.specs.Objects.{fields_in}
use Rattle.oci_schema.specs.Walks.{Writes}
use Rattle.oci_schema.proofs.ArrayWalk.{ItemsLeft}
use Rattle.oci_schema.proofs.FieldWalk.{FieldsLeft}
use Rattle.oci_schema.proofs.MapWalk.{MembersSoFar}
use Rattle.oci_schema.proofs.bytes.walk.+writes.Given as goal

abbrev pub decreases-write_value : goal.decreases-write_value
decreases-write_value g l = 8 * l.depth

abbrev pub decreases-write_items : goal.decreases-write_items
decreases-write_items g l = 8 * l.depth + 5

abbrev pub decreases-write_map : goal.decreases-write_map
decreases-write_map g l = 8 * l.depth + 5

abbrev pub decreases-write_part : goal.decreases-write_part
decreases-write_part g l = 8 * l.depth + 4

abbrev pub decreases-write_record : goal.decreases-write_record
decreases-write_record g l = 8 * l.depth + 3

abbrev pub decreases-write_fields : goal.decreases-write_fields
decreases-write_fields g l = 8 * l.depth + 2

abbrev pub decreases-write_field : goal.decreases-write_field
decreases-write_field g l = 8 * l.depth + 1

abbrev pub invariant-write_items-each_item : goal.invariant-write_items-each_item
invariant-write_items-each_item g l =
    Writes g.K.Sink.holds (λ a b. (d : Data) → BeginsWithData l.fn.element d → ItemsLeft (part_shape (g.T.Records.shape_at l.records) l.part) d a l.rest b) l.fn.out l.out

abbrev pub decreases-write_items-each_item : goal.decreases-write_items-each_item
decreases-write_items-each_item g l = length l.rest

abbrev pub invariant-write_map-each_member : goal.invariant-write_map-each_member
invariant-write_map-each_member g l =
    Writes g.K.Sink.holds (λ a b. (d : Data) → BeginsWithData l.fn.element d → MembersSoFar (part_shape (g.T.Records.shape_at l.records) l.part) d a l.last l.rest b) l.fn.out l.out

abbrev pub decreases-write_map-each_member : goal.decreases-write_map-each_member
decreases-write_map-each_member g l = length l.rest

abbrev pub invariant-write_fields-loop-slot : goal.invariant-write_fields-loop-slot
invariant-write_fields-loop-slot g l =
    let f = g.T.Records.shape_at l.records in
    let rest = fields_in (drop l.slot-index l.slots) in
    Writes g.K.Sink.holds (λ a b. (AreAccepted f rest → AreAccepted f (fields_in l.slots)) × FieldsLeft f (fields_in l.slots) rest a b) l.fn.out l.out
