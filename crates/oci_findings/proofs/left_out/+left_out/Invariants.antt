use Rattle.std.proofs.Common.{◌+◌, ◌*◌, length}
use Rattle.oci_findings.specs.LeftOut.{Adds}
use Rattle.oci_findings.proofs.left_out.+left_out.Given as goal

abbrev pub decreases-add_part : goal.decreases-add_part
decreases-add_part l = 5 * l.depth

abbrev pub decreases-add_items : goal.decreases-add_items
decreases-add_items l = 5 * l.depth + 1

abbrev pub decreases-add_entries : goal.decreases-add_entries
decreases-add_entries l = 5 * l.depth + 1

abbrev pub decreases-add_value : goal.decreases-add_value
decreases-add_value l = 5 * l.depth + 2

abbrev pub decreases-add_member : goal.decreases-add_member
decreases-add_member l = 5 * l.depth + 3

abbrev pub decreases-add_members : goal.decreases-add_members
decreases-add_members l = 5 * l.depth + 4

abbrev pub invariant-add_items-each_item : goal.invariant-add_items-each_item
invariant-add_items-each_item l = Adds l.at l.initial.found.items l.found.items

abbrev pub decreases-add_items-each_item : goal.decreases-add_items-each_item
decreases-add_items-each_item l = length l.rest

abbrev pub invariant-add_entries-each_entry : goal.invariant-add_entries-each_entry
invariant-add_entries-each_entry l = Adds l.at l.initial.found.items l.found.items

abbrev pub decreases-add_entries-each_entry : goal.decreases-add_entries-each_entry
decreases-add_entries-each_entry l = length l.rest

abbrev pub invariant-add_members-each_member : goal.invariant-add_members-each_member
invariant-add_members-each_member l = Adds l.at l.initial.found.items l.found.items

abbrev pub decreases-add_members-each_member : goal.decreases-add_members-each_member
decreases-add_members-each_member l = length l.rest
