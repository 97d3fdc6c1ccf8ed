use Rattle.std.proofs.Common.{◌≡◌, drop}
use Rattle.serde_json.specs.View.{items_view, members_view}
use Rattle.serde_json.specs.Written.{items_have_float, members_have_float}
use Rattle.oci_model.proofs.other_numbers.+trees.Given as goal

abbrev pub invariant-items_have_other_numbers-loop-item : goal.invariant-items_have_other_numbers-loop-item
invariant-items_have_other_numbers-loop-item l = items_have_float (items_view l.items.items) ≡ items_have_float (items_view (drop l.item-index l.item-items))

abbrev pub invariant-members_have_other_numbers-loop-member : goal.invariant-members_have_other_numbers-loop-member
invariant-members_have_other_numbers-loop-member l = members_have_float (members_view l.members.entries) ≡ members_have_float (members_view l.member-iterator)
