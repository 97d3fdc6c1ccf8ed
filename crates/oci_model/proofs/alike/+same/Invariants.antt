use Rattle.std.proofs.Common.{◌≡◌, drop}
use Rattle.serde_json.specs.View.{items_view, members_view}
use Rattle.oci_model.specs.Alike.{are_same, hold_same}
use Rattle.oci_model.proofs.alike.+same.Given as goal

abbrev pub invariant-same_items-loop-x : goal.invariant-same_items-loop-x
invariant-same_items-loop-x l = are_same (items_view l.a.items) (items_view l.b.items) ≡ are_same (items_view (drop l.x-index l.x-items)) (items_view l.others.rest.now)

abbrev pub invariant-same_members-loop-k : goal.invariant-same_members-loop-k
invariant-same_members-loop-k l =
    hold_same (members_view l.a.entries) (members_view l.b.entries) ≡ hold_same (members_view l.k-iterator) (members_view l.others)
