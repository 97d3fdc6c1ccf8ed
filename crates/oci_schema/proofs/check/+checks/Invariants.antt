use Rattle.std.proofs.Common.{◌≡◌, ◌+◌, ◌*◌, ◌≤◌, drop, option_map}
use Rattle.serde_json.specs.View.{view, items_view, members_view}
use Rattle.oci_model.specs.Sizes.{size, items_size, members_size, found_size}
use Rattle.oci_schema.specs.Shapes.{part_shape, members_in}
use Rattle.oci_schema.specs.Allows.{allows, rows_allow, each_allowed, each_member_allowed}
use Rattle.oci_schema.proofs.check.+checks.Given as goal

abbrev pub decreases-check_found : goal.decreases-check_found
decreases-check_found g l = 6 * found_size (option_map (λ v. view v.now) l.found) + 5

abbrev pub decreases-check_schema : goal.decreases-check_schema
decreases-check_schema g l = 6 * size (view l.value.now) + 4

abbrev pub decreases-check_part : goal.decreases-check_part
decreases-check_part g l = 6 * size (view l.value.now) + 3

abbrev pub decreases-check_record : goal.decreases-check_record
decreases-check_record g l = 6 * size (view l.value.now) + 2

abbrev pub decreases-check_members : goal.decreases-check_members
decreases-check_members g l = 6 * size (view l.value.now) + 1

abbrev pub decreases-check_member : goal.decreases-check_member
decreases-check_member g l = 6 * size (view l.value.now)

abbrev pub decreases-check_items : goal.decreases-check_items
decreases-check_items g l = 6 * items_size (items_view l.items.now.items) + 5

abbrev pub decreases-check_entries : goal.decreases-check_entries
decreases-check_entries g l = 6 * members_size (members_view l.entries.now.entries) + 5

abbrev pub invariant-check_items-loop-item : goal.invariant-check_items-loop-item
invariant-check_items-loop-item g l = record {
  same : each_allowed (allows (part_shape (g.T.Records.shape_at l.records) l.part)) (items_view l.items.items) ≡ each_allowed (allows (part_shape (g.T.Records.shape_at l.records) l.part)) (items_view (drop l.item-index l.item-items));
  smaller : items_size (items_view (drop l.item-index l.item-items)) ≤ items_size (items_view l.items.items);
}

abbrev pub invariant-check_entries-loop-entry : goal.invariant-check_entries-loop-entry
invariant-check_entries-loop-entry g l = record {
  same : each_member_allowed (allows (part_shape (g.T.Records.shape_at l.records) l.part)) (members_view l.entries.entries) ≡ each_member_allowed (allows (part_shape (g.T.Records.shape_at l.records) l.part)) (members_view l.entry-iterator);
  smaller : members_size (members_view l.entry-iterator) ≤ members_size (members_view l.entries.entries);
}

abbrev pub invariant-check_members-loop-member : goal.invariant-check_members-loop-member
invariant-check_members-loop-member g l =
    rows_allow (members_in (g.T.Records.shape_at l.records) l.members) (view l.value) ≡ rows_allow (members_in (g.T.Records.shape_at l.records) (drop l.member-index l.members)) (view l.value)
