use Rattle.std.proofs.Common.{◌+◌, ◌*◌, ◌≤◌, ◌<◌, length, get_or, List, ℕ}
use Rattle.serde_json.specs.Data.{Data, object, array}
use Rattle.serde_json.specs.Find.{get}
use Rattle.serde_json.specs.View.{view, items_view, members_view}
use Rattle.oci_model.specs.Sizes.{size, items_size, members_size}
use Rattle.oci_schema.specs.Leads.{Have}
use Rattle.oci_schema.specs.Places.{under_name}
use Rattle.oci_diff.specs.Tells.{AddsTold, TellsMember, TellsStep}
use Rattle.oci_diff.proofs.Telling.{Left}
use Rattle.oci_diff.specs.declared.aligned.Step.{Step}
use Rattle.oci_diff.specs.Differs.{StandAt, AddsIf}
use Rattle.oci_diff.proofs.Ways.{AreAmong}
use Rattle.oci_diff.proofs.changes.+differences.Given as goal

abbrev pub decreases-add_differences : goal.decreases-add_differences
decreases-add_differences l = 6 * size (view l.before.now) + 2

abbrev pub decreases-add_parts : goal.decreases-add_parts
decreases-add_parts l = 6 * size (view l.before.now) + 1

abbrev pub decreases-add_step : goal.decreases-add_step
decreases-add_step l = 6 * items_size (items_view l.items.now.items) + 3

abbrev pub decreases-add_member : goal.decreases-add_member
decreases-add_member l = 6 * size (view l.member.now) + 3

abbrev pub decreases-add_items : goal.decreases-add_items
decreases-add_items l = 6 * items_size (items_view l.items.now.items) + 4

abbrev pub decreases-add_members : goal.decreases-add_members
decreases-add_members l = 6 * members_size (members_view l.members.now.entries) + 4

abbrev pub invariant-add_items-loop-step : goal.invariant-add_items-loop-step
invariant-add_items-loop-step l = record {
  so : AddsIf (StandAt (array (items_view l.items.items)) (array (items_view l.others.items)) l.at) l.initial.found.items l.found.items;
  grows : length l.initial.found.items ≤ length l.found.items;
  told : AddsTold (λ list. (k : ℕ) (d : Step) → k < l.step-index → TellsStep list l.at (items_view l.items.items) (items_view l.others.items) (get_or l.step-items k d)) l.initial.found.items l.found.items;
}

abbrev pub invariant-add_members-loop-name : goal.invariant-add_members-loop-name
invariant-add_members-loop-name l = record {
  so : AddsIf (StandAt (object (members_view l.members.entries)) (view l.after) l.at) l.initial.found.items l.found.items;
  grows : length l.initial.found.items ≤ length l.found.items;
  told : AddsTold (λ list. (name : List ℕ) (b : Data) → Have (members_view l.members.entries) name b → Left (λ n c. TellsMember list (under_name l.at n) c (get n (view l.after))) (members_view l.name-iterator) name b) l.initial.found.items l.found.items;
  among : AreAmong (members_view l.name-iterator) (members_view l.members.entries);
  smaller : members_size (members_view l.name-iterator) ≤ members_size (members_view l.members.entries);
}
