use Rattle.std.proofs.Common.{◌≡◌, ◌++◌, ◌+◌, ◌*◌, ◌≤◌, drop, map, option_map}
use Rattle.serde_json.specs.View.{view, items_view, members_view}
use Rattle.oci_model.specs.Sizes.{size, items_size, members_size, found_size}
use Rattle.oci_schema.specs.Shapes.{part_shape, members_in}
use Rattle.oci_schema.specs.EachPart.{of_each, of_each_member}
use Rattle.oci_schema.specs.Places.{pointer}
use Rattle.oci_schema.specs.Reported.{reported}
use Rattle.oci_schema.specs.Unknown.{unknown, unknown_in}
use Rattle.oci_schema.proofs.unknown.+unknown.Given as goal

abbrev pub decreases-add_found : goal.decreases-add_found
decreases-add_found g l = 6 * found_size (option_map (λ v. view v.now) l.there) + 5

abbrev pub decreases-add_schema : goal.decreases-add_schema
decreases-add_schema g l = 6 * size (view l.value.now) + 4

abbrev pub decreases-add_part : goal.decreases-add_part
decreases-add_part g l = 6 * size (view l.value.now) + 3

abbrev pub decreases-add_record : goal.decreases-add_record
decreases-add_record g l = 6 * size (view l.value.now) + 2

abbrev pub decreases-add_members : goal.decreases-add_members
decreases-add_members g l = 6 * size (view l.value.now) + 1

abbrev pub decreases-add_member : goal.decreases-add_member
decreases-add_member g l = 6 * size (view l.value.now)

abbrev pub decreases-add_items : goal.decreases-add_items
decreases-add_items g l = 6 * items_size (items_view l.items.now.items) + 5

abbrev pub decreases-add_entries : goal.decreases-add_entries
decreases-add_entries g l = 6 * members_size (members_view l.entries.now.entries) + 5

-- what was found, and what is still to be found, is all
abbrev pub invariant-add_items-loop-index : goal.invariant-add_items-loop-index
invariant-add_items-loop-index g l = record {
  all :
      map reported l.found.items ++ of_each (unknown (part_shape (g.T.Records.shape_at l.records) l.part)) (pointer l.at) l.index (items_view (drop l.index l.items.items))
      ≡ map reported l.initial.found.items ++ of_each (unknown (part_shape (g.T.Records.shape_at l.records) l.part)) (pointer l.at) 0 (items_view l.items.items);
  smaller : items_size (items_view (drop l.index l.items.items)) ≤ items_size (items_view l.items.items);
}

abbrev pub invariant-add_entries-loop-name : goal.invariant-add_entries-loop-name
invariant-add_entries-loop-name g l = record {
  all :
      map reported l.found.items ++ of_each_member (unknown (part_shape (g.T.Records.shape_at l.records) l.part)) (pointer l.at) (members_view l.name-iterator)
      ≡ map reported l.initial.found.items ++ of_each_member (unknown (part_shape (g.T.Records.shape_at l.records) l.part)) (pointer l.at) (members_view l.entries.entries);
  smaller : members_size (members_view l.name-iterator) ≤ members_size (members_view l.entries.entries);
}

abbrev pub invariant-add_members-loop-member : goal.invariant-add_members-loop-member
invariant-add_members-loop-member g l =
    map reported l.found.items ++ unknown_in (members_in (g.T.Records.shape_at l.records) (drop l.member-index l.members)) (pointer l.at) (view l.value)
    ≡ map reported l.initial.found.items ++ unknown_in (members_in (g.T.Records.shape_at l.records) l.members) (pointer l.at) (view l.value)
