use Rattle.std.proofs.Common.{◌≡◌, ◌++◌, ◌+◌, ◌*◌, ◌≤◌, drop, map, string_bytes}
use Rattle.std.specs.BTreeSet.{contains_text}
use Rattle.json.specs.Value.{value_view, items_view, members_view}
use Rattle.oci_schema.specs.Places.{pointer}
use Rattle.oci_schema.specs.Twice.{repeated_items, repeated_members, no_name, size, items_size, members_size}
use Rattle.oci_schema.proofs.twice.+twice.Given as goal

abbrev pub decreases-add_value : goal.decreases-add_value
decreases-add_value l = 2 * size (value_view l.value.now)

abbrev pub decreases-add_items : goal.decreases-add_items
decreases-add_items l = 2 * items_size (items_view l.items.now) + 1

abbrev pub decreases-add_members : goal.decreases-add_members
decreases-add_members l = 2 * members_size (members_view l.members.now) + 1

-- what was found, and what is still to be found, is all
abbrev pub invariant-add_items-loop-index : goal.invariant-add_items-loop-index
invariant-add_items-loop-index l = record {
  all : map string_bytes l.found.items ++ repeated_items (pointer l.at) l.index (items_view (drop l.index l.items)) ≡ map string_bytes l.initial.found.items ++ repeated_items (pointer l.at) 0 (items_view l.items);
  smaller : items_size (items_view (drop l.index l.items)) ≤ items_size (items_view l.items);
}

abbrev pub invariant-add_members-loop-name : goal.invariant-add_members-loop-name
invariant-add_members-loop-name l = record {
  all :
      map string_bytes l.found.items ++ repeated_members (pointer l.at) (contains_text l.before) (members_view (drop l.name-index l.members))
      ≡ map string_bytes l.initial.found.items ++ repeated_members (pointer l.at) no_name (members_view l.members);
  smaller : members_size (members_view (drop l.name-index l.members)) ≤ members_size (members_view l.members);
}
