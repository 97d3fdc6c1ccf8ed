use Rattle.std.proofs.Common.{◌+◌, ◌*◌, ◌≤◌, length}
use Rattle.serde_json.specs.Data.{Items, items_depth, Members, members_depth, no_members}
use Rattle.serde_json.specs.View.{items_view, members_view}
use Rattle.oci_json_tape.specs.Walked.{InItemsData, InMembersData}
use Rattle.oci_json_tape.proofs.Made.{ItemsMade}
use Rattle.oci_json_tape.proofs.read.+reads.Given as goal

abbrev pub decreases-value_of : goal.decreases-value_of
decreases-value_of l = 2 * l.depth

abbrev pub decreases-array_of : goal.decreases-array_of
decreases-array_of l = 2 * l.depth + 1

abbrev pub decreases-object_of : goal.decreases-object_of
decreases-object_of l = 2 * l.depth + 1

abbrev pub invariant-array_of-each_item : goal.invariant-array_of-each_item
invariant-array_of-each_item l = record {
  value : (ds : Items) → InItemsData l.fn.rest ds → ItemsMade ds l.found.items l.rest;
  nests : items_depth (items_view l.found.items) ≤ l.depth;
}

abbrev pub decreases-array_of-each_item : goal.decreases-array_of-each_item
decreases-array_of-each_item l = length l.rest

abbrev pub invariant-object_of-each_member : goal.invariant-object_of-each_member
invariant-object_of-each_member l = record {
  value : (ms : Members) → InMembersData l.fn.rest no_members ms → InMembersData l.rest (members_view l.found.entries) ms;
  nests : members_depth (members_view l.found.entries) ≤ l.depth;
}

abbrev pub decreases-object_of-each_member : goal.decreases-object_of-each_member
decreases-object_of-each_member l = length l.rest
