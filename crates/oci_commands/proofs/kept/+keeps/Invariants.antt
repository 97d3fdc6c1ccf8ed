use Rattle.std.proofs.Common.{◌≡◌, ◌+◌, ◌*◌, ◌≤◌, drop, option_map}
use Rattle.serde_json.specs.Data.{no_members}
use Rattle.serde_json.specs.View.{view, items_view, members_view}
use Rattle.oci_model.specs.Sizes.{size, items_size, members_size, found_size}
use Rattle.oci_schema.specs.Shapes.{part_shape, members_in}
use Rattle.oci_schema.proofs.Parts.{joined}
use Rattle.oci_commands.specs.Kept.{each_kept, kept, kept_entries, kept_rows}
use Rattle.oci_commands.proofs.kept.+keeps.Given as goal

abbrev pub decreases-with_unknown : goal.decreases-with_unknown
decreases-with_unknown g l = 7 * size (view l.canonical.now) + 6

abbrev pub decreases-keep_part_or : goal.decreases-keep_part_or
decreases-keep_part_or g l = 7 * size (view l.canonical.now) + 5

abbrev pub decreases-keep_part : goal.decreases-keep_part
decreases-keep_part g l = 7 * size (view l.canonical.now) + 4

abbrev pub decreases-keep_record : goal.decreases-keep_record
decreases-keep_record g l = 7 * size (view l.canonical.now) + 3

abbrev pub decreases-keep_object : goal.decreases-keep_object
decreases-keep_object g l = 7 * size (view l.canonical.now) + 2

abbrev pub decreases-keep_members : goal.decreases-keep_members
decreases-keep_members g l = 7 * size (view l.canonical.now) + 1

abbrev pub decreases-keep_member : goal.decreases-keep_member
decreases-keep_member g l = 7 * size (view l.canonical.now)

abbrev pub decreases-keep_items : goal.decreases-keep_items
decreases-keep_items g l = 7 * items_size (items_view l.items.now.items) + 6

abbrev pub decreases-keep_entries : goal.decreases-keep_entries
decreases-keep_entries g l = 7 * members_size (members_view l.entries.now.entries) + 6

-- what was made, with what is still to be made, is all
abbrev pub invariant-keep_items-loop-index : goal.invariant-keep_items-loop-index
invariant-keep_items-loop-index g l = record {
  all :
      joined (items_view l.made.items) (each_kept (kept (part_shape (g.T.Records.shape_at l.records) l.part)) (view l.read) l.index (items_view (drop l.index l.items.items)))
      ≡ each_kept (kept (part_shape (g.T.Records.shape_at l.records) l.part)) (view l.read) 0 (items_view l.items.items);
  smaller : items_size (items_view (drop l.index l.items.items)) ≤ items_size (items_view l.items.items);
}

abbrev pub invariant-keep_entries-loop-name : goal.invariant-keep_entries-loop-name
invariant-keep_entries-loop-name g l = record {
  all :
      kept_entries (kept (part_shape (g.T.Records.shape_at l.records) l.part)) (view l.read) (members_view l.name-iterator) (members_view l.made.entries)
      ≡ kept_entries (kept (part_shape (g.T.Records.shape_at l.records) l.part)) (view l.read) (members_view l.entries.entries) no_members;
  smaller : members_size (members_view l.name-iterator) ≤ members_size (members_view l.entries.entries);
}

abbrev pub invariant-keep_members-loop-member : goal.invariant-keep_members-loop-member
invariant-keep_members-loop-member g l =
    kept_rows (members_in (g.T.Records.shape_at l.records) (drop l.member-index l.members)) (view l.read) (view l.canonical) (members_view l.made.entries)
    ≡ kept_rows (members_in (g.T.Records.shape_at l.records) l.members) (view l.read) (view l.canonical) (members_view l.initial.made.entries)
