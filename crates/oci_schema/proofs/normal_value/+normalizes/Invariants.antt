use Rattle.std.proofs.Common.{◌≡◌, ◌+◌, ◌*◌, ◌≤◌, List, ◌++◌, drop, option_map}
use Rattle.std.specs.Vec.Iter.{into_iter_items}
use Rattle.serde_json.specs.Data.{object}
use Rattle.serde_json.specs.View.{view, items_view, members_view}
use Rattle.serde_json.proofs.Views.{Entry}
use Rattle.oci_schema.specs.Allows.{each_allowed, each_member_allowed}
use Rattle.oci_schema.specs.Normalized.{accepts, normalized, each_normalized, each_member_normalized}
use Rattle.oci_schema.proofs.Moved.{Moved}
use Rattle.oci_schema.proofs.Parts.{joined}
use Rattle.oci_schema.specs.Shapes.{part_shape, members_in}
use Rattle.oci_model.specs.Sizes.{size, items_size, members_size, found_size}
use Rattle.oci_schema.proofs.normal_value.+normalizes.Given as goal

abbrev pub decreases-normal_members : goal.decreases-normal_members
decreases-normal_members g l = 6 * members_size (members_view l.found.entries) + 7

abbrev pub decreases-move_member : goal.decreases-move_member
decreases-move_member g l = 6 * members_size (members_view l.found.now.entries) + 6

abbrev pub decreases-normal_member : goal.decreases-normal_member
decreases-normal_member g l = 6 * found_size (option_map view l.found) + 5

abbrev pub decreases-normal_value : goal.decreases-normal_value
decreases-normal_value g l = 6 * size (view l.value) + 4

abbrev pub decreases-normal_part : goal.decreases-normal_part
decreases-normal_part g l = 6 * size (view l.value) + 3

abbrev pub decreases-normal_record : goal.decreases-normal_record
decreases-normal_record g l = 6 * size (view l.value) + 2

abbrev pub decreases-normal_items : goal.decreases-normal_items
decreases-normal_items g l = 6 * items_size (items_view l.items.items) + 5

abbrev pub decreases-normal_map : goal.decreases-normal_map
decreases-normal_map g l = 6 * members_size (members_view l.members.entries) + 5

abbrev pub invariant-normal_items-loop-item : goal.invariant-normal_items-loop-item
invariant-normal_items-loop-item g l =
    let s = part_shape (g.T.Records.shape_at l.records) l.part in
    let all = items_view (into_iter_items l.initial.item-iterator) in
    let left = items_view (into_iter_items l.item-iterator) in
    record {
      accepted : each_allowed (accepts s) all ≡ each_allowed (accepts s) left;
      made : each_normalized (normalized s) all ≡ joined (items_view l.made.items) (each_normalized (normalized s) left);
      smaller : items_size left ≤ items_size all;
    }

abbrev pub invariant-normal_map-loop-name : goal.invariant-normal_map-loop-name
invariant-normal_map-loop-name g l =
    let s = part_shape (g.T.Records.shape_at l.records) l.part in
    (done : List Entry) × (l.initial.name-iterator ≡ done ++ l.name-iterator)
    × (each_member_allowed (accepts s) (members_view l.initial.name-iterator) ≡ each_member_allowed (accepts s) (members_view l.name-iterator))
    × (members_view l.made.entries ≡ each_member_normalized (normalized s) (members_view done))
    × (members_size (members_view l.name-iterator) ≤ members_size (members_view l.initial.name-iterator))

abbrev pub invariant-normal_members-loop-member : goal.invariant-normal_members-loop-member
invariant-normal_members-loop-member g l = record {
  moved : Moved (members_in (g.T.Records.shape_at l.records) l.members) (object (members_view l.fn.found.entries)) (members_in (g.T.Records.shape_at l.records) (drop l.member-index l.members)) (members_view l.found.entries) (members_view l.made.entries);
  smaller : members_size (members_view l.found.entries) ≤ members_size (members_view l.fn.found.entries);
}
