use Rattle.std.proofs.Common.{◌≡◌, ◌++◌, ◌+◌, ◌*◌, drop, map, length}
use Rattle.serde_json.specs.View.{view, items_view, members_view}
use Rattle.oci_rules.specs.Tables.{told, rule_of, test_of, place_of}
use Rattle.oci_schema.specs.EachPart.{of_each, of_each_member}
use Rattle.oci_schema.specs.Places.{pointer}
use Rattle.oci_rules.specs.Listed.{told_by, told_at, of_each_name}
use Rattle.oci_rules.proofs.find.+walk.Given as goal

abbrev pub decreases-add_at : goal.decreases-add_at
decreases-add_at l = 2 * length l.steps.now

abbrev pub decreases-add_items : goal.decreases-add_items
decreases-add_items l = 2 * length l.steps.now + 1

abbrev pub decreases-add_members : goal.decreases-add_members
decreases-add_members l = 2 * length l.steps.now + 1

abbrev pub decreases-add_names : goal.decreases-add_names
decreases-add_names l = 2 * length l.steps.now + 1

-- what was found, and what is still to be found, is all
abbrev pub invariant-add_items-loop-index : goal.invariant-add_items-loop-index
invariant-add_items-loop-index l =
    map told l.found.items ++ of_each (told_at (view l.asked.document.now) (place_of l.steps) (told_by (test_of l.asked.rule.now.test) (rule_of l.asked.rule.now))) (pointer l.at) l.index (items_view (drop l.index l.items.items))
    ≡ map told l.initial.found.items ++ of_each (told_at (view l.asked.document.now) (place_of l.steps) (told_by (test_of l.asked.rule.now.test) (rule_of l.asked.rule.now))) (pointer l.at) 0 (items_view l.items.items)

abbrev pub invariant-add_members-loop-name : goal.invariant-add_members-loop-name
invariant-add_members-loop-name l =
    map told l.found.items ++ of_each_member (told_at (view l.asked.document.now) (place_of l.steps) (told_by (test_of l.asked.rule.now.test) (rule_of l.asked.rule.now))) (pointer l.at) (members_view l.name-iterator)
    ≡ map told l.initial.found.items ++ of_each_member (told_at (view l.asked.document.now) (place_of l.steps) (told_by (test_of l.asked.rule.now.test) (rule_of l.asked.rule.now))) (pointer l.at) (members_view l.members.entries)

abbrev pub invariant-add_names-loop-name : goal.invariant-add_names-loop-name
invariant-add_names-loop-name l =
    map told l.found.items ++ of_each_name (told_at (view l.asked.document.now) (place_of l.steps) (told_by (test_of l.asked.rule.now.test) (rule_of l.asked.rule.now))) (pointer l.at) (members_view l.name-iterator)
    ≡ map told l.initial.found.items ++ of_each_name (told_at (view l.asked.document.now) (place_of l.steps) (told_by (test_of l.asked.rule.now.test) (rule_of l.asked.rule.now))) (pointer l.at) (members_view l.members.entries)
