use Rattle.std.proofs.Common.{drop}
use Rattle.serde_json.specs.View.{items_view, members_view}
use Rattle.oci_schema.specs.Plain.{ArePlain, HoldPlain}
use Rattle.oci_schema.proofs.plain.+plain.Given as goal

abbrev pub invariant-are_plain-loop-item : goal.invariant-are_plain-loop-item
invariant-are_plain-loop-item l = ArePlain l.room (items_view (drop l.item-index l.item-items)) → ArePlain l.room (items_view l.items.items)

abbrev pub invariant-hold_plain-loop-member : goal.invariant-hold_plain-loop-member
invariant-hold_plain-loop-member l = HoldPlain l.room (members_view l.member-iterator) → HoldPlain l.room (members_view l.members.entries)
