use Rattle.std.proofs.Common.{drop}
use Rattle.serde_json.specs.View.{items_view, members_view}
use Rattle.oci_schema.specs.Leads.{AreOrderly, HoldOrderly}
use Rattle.oci_schema.proofs.laws.+orderly.Given as goal

abbrev pub invariant-items_are_orderly-loop-item : goal.invariant-items_are_orderly-loop-item
invariant-items_are_orderly-loop-item l = AreOrderly (items_view (drop l.item-index l.item-items)) → AreOrderly (items_view l.items.items)

abbrev pub invariant-members_are_orderly-loop-member : goal.invariant-members_are_orderly-loop-member
invariant-members_are_orderly-loop-member l = HoldOrderly (members_view l.member-iterator) → HoldOrderly (members_view l.members.entries)
