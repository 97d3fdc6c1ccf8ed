use Rattle.std.proofs.Common.{◌≡◌, List, length, sym, subst, arith}
use Rattle.serde_json.specs.Events.{items_len}
use Rattle.serde_json.specs.View.{items_view, members_view}
use Rattle.serde_json.specs.declared.value.Value.{Value}
use Rattle.serde_json.proofs.Views.{Entry, items_len-items_view}
use Rattle.oci_schema.specs.Leads.{AreOrderly, HoldOrderly}
use Rattle.oci_schema.proofs.Listed.{cut_at}
use Rattle.oci_schema.proofs.NormalParts.{in_order}
use Rattle.oci_schema.proofs.laws.+orderly.Goals as goal

pub members_are_orderly-returns-clause-order : goal.members_are_orderly-returns-clause-order
members_are_orderly-returns-clause-order t c = in_order _ c.iter-member-items.ensures.ordered

pub items_are_orderly-loop-item-preserved : goal.items_are_orderly-loop-item-preserved
items_are_orderly-loop-item-preserved t c =
    λ h. c.loop-item.invariant (subst (λ (vs : List Value). AreOrderly (items_view vs)) (sym (cut_at _ c.loop-item.item-index c.item-item.result c.loop-item-test.true c.item-item.is))
    (c.names_are_in_order.ensures, h))

pub members_are_orderly-loop-member-preserved : goal.members_are_orderly-loop-member-preserved
members_are_orderly-loop-member-preserved t c =
    λ h. c.loop-member.invariant (subst (λ (es : List Entry). HoldOrderly (members_view es)) (sym c.in-Some.ensures.steps) (c.names_are_in_order.ensures, h))

pub items_are_orderly-returns-clause-few : goal.items_are_orderly-returns-clause-few
items_are_orderly-returns-clause-few t c =
    let items = c.args.items.now in
    let same : items_len (items_view items.items) ≡ length items.items = items_len-items_view items.items in
    let counted = items.ok in
    let small = items.small in
    omega arith
