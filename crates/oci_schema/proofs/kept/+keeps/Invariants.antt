use Rattle.std.proofs.Common.{◌+◌, ◌*◌, ◌≤◌, drop}
use Rattle.serde_json.specs.View.{view, items_view, members_view}
use Rattle.oci_model.specs.Sizes.{size, items_size, members_size}
use Rattle.oci_model.specs.WellFormed.{AreWellFormed}
use Rattle.oci_schema.specs.Shapes.{part_shape, members_in}
use Rattle.oci_schema.specs.Normal.{AreNormal, HoldNormal, IsNormalEntry, AreNormalEntries}
use Rattle.oci_schema.proofs.kept.+keeps.Given as goal

abbrev pub decreases-is_normal_value : goal.decreases-is_normal_value
decreases-is_normal_value g l = 8 * size (view l.value.now) + 3

abbrev pub decreases-is_normal_part : goal.decreases-is_normal_part
decreases-is_normal_part g l = 8 * size (view l.value.now) + 2

abbrev pub decreases-is_normal_record : goal.decreases-is_normal_record
decreases-is_normal_record g l = 8 * size (view l.value.now) + 1

abbrev pub decreases-are_normal : goal.decreases-are_normal
decreases-are_normal g l = 8 * items_size (items_view l.items.now.items) + 3

abbrev pub decreases-hold_normal : goal.decreases-hold_normal
decreases-hold_normal g l = 8 * members_size (members_view l.members.now.entries) + 3

abbrev pub decreases-are_normal_members : goal.decreases-are_normal_members
decreases-are_normal_members g l = 8 * members_size (members_view l.found.now.entries) + 8

abbrev pub decreases-are_normal_entries : goal.decreases-are_normal_entries
decreases-are_normal_entries g l = 8 * members_size (members_view l.found.now.entries) + 7

abbrev pub decreases-is_normal_entry : goal.decreases-is_normal_entry
decreases-is_normal_entry g l = 8 * size (view l.value.now) + 5

abbrev pub decreases-is_normal_member : goal.decreases-is_normal_member
decreases-is_normal_member g l = 8 * size (view l.value.now) + 4

abbrev pub invariant-are_normal-loop-item : goal.invariant-are_normal-loop-item
invariant-are_normal-loop-item g l =
    let s = part_shape (g.T.Records.shape_at l.records) l.part in
    record {
      normal : AreNormal s (items_view (drop l.item-index l.item-items)) → AreNormal s (items_view l.items.items);
      smaller : items_size (items_view (drop l.item-index l.item-items)) ≤ items_size (items_view l.items.items);
    }

abbrev pub invariant-hold_normal-loop-member : goal.invariant-hold_normal-loop-member
invariant-hold_normal-loop-member g l =
    let s = part_shape (g.T.Records.shape_at l.records) l.part in
    record {
      normal : HoldNormal s (members_view l.member-iterator) → HoldNormal s (members_view l.members.entries);
      smaller : members_size (members_view l.member-iterator) ≤ members_size (members_view l.members.entries);
    }

abbrev pub invariant-are_normal_entries-loop-name : goal.invariant-are_normal_entries-loop-name
invariant-are_normal_entries-loop-name g l =
    let ms = members_in (g.T.Records.shape_at l.records) l.members in
    record {
      normal : AreNormalEntries ms (members_view l.name-iterator) → AreNormalEntries ms (members_view l.found.entries);
      smaller : members_size (members_view l.name-iterator) ≤ members_size (members_view l.found.entries);
    }

abbrev pub invariant-is_normal_entry-loop-member : goal.invariant-is_normal_entry-loop-member
invariant-is_normal_entry-loop-member g l =
    let f = g.T.Records.shape_at l.records in
    record {
      normal : IsNormalEntry (members_in f (drop l.member-index l.members)) l.name (view l.value) → IsNormalEntry (members_in f l.members) l.name (view l.value);
      well : AreWellFormed (members_in f (drop l.member-index l.members));
    }
