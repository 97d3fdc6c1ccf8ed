use Rattle.std.proofs.Common.{List, string_bytes, sym, ap, ◌∙◌, subst}
use Rattle.serde_json.specs.View.{view, items_view, members_view}
use Rattle.serde_json.specs.declared.value.Value.{Value}
use Rattle.serde_json.proofs.Views.{Entry, view-Array, view-Object}
use Rattle.oci_schema.specs.Plain.{IsPlain, ArePlain, HoldPlain}
use Rattle.oci_schema.proofs.Listed.{cut_at}
use Rattle.oci_schema.proofs.NormalParts.{in_order, item_plain, member_plain}
use Rattle.oci_schema.proofs.Steps.{none_left_plain, array_plain, object_plain}
use Rattle.oci_schema.proofs.plain.+plain.Goals as goal

pub hold_plain-returns-then-not-is_plain-clause-ordered : goal.hold_plain-returns-then-not-is_plain-clause-ordered
hold_plain-returns-then-not-is_plain-clause-ordered t c = in_order _ c.iter-member-items.ensures.ordered

pub hold_plain-returns-clause-ordered : goal.hold_plain-returns-clause-ordered
hold_plain-returns-clause-ordered t c = in_order _ c.iter-member-items.ensures.ordered

pub are_plain-loop-item-preserved : goal.are_plain-loop-item-preserved
are_plain-loop-item-preserved t c =
    λ h. c.loop-item.invariant (subst (λ (vs : List Value). ArePlain c.args.room (items_view vs)) (sym (cut_at _ c.loop-item.item-index c.item-item.result c.loop-item-test.true c.item-item.is))
    (item_plain _ _ _ (c.is_plain.ensures c.if-not-is_plain.false) h))

pub hold_plain-loop-member-preserved : goal.hold_plain-loop-member-preserved
hold_plain-loop-member-preserved t c =
    λ h. c.loop-member.invariant (subst (λ (es : List Entry). HoldPlain c.args.room (members_view es)) (sym c.in-Some.ensures.steps) (member_plain _ (string_bytes c.in-Some.field-0-0.now) _ _ (c.is_plain.ensures c.if-not-is_plain.false) h))

pub are_plain-returns : goal.are_plain-returns
are_plain-returns t c = λ h. c.loop-item.invariant (none_left_plain c.args.room c.deref-item-items.result.now c.loop-item.item-index c.loop-item-test.false)

pub is_plain-returns-then-room-gt0 : goal.is_plain-returns-then-room-gt0
is_plain-returns-then-room-gt0 t c =
    λ h. subst (IsPlain c.args.room) (sym (ap view c.in-Array.is ∙ view-Array c.in-Array.items)) (array_plain c.args.room _ c.if-room-gt0.true (c.are_plain.ensures h))

pub is_plain-returns-then-room-gt0-2 : goal.is_plain-returns-then-room-gt0-2
is_plain-returns-then-room-gt0-2 t c =
    λ h. subst (IsPlain c.args.room) (sym (ap view c.in-Object.is ∙ view-Object c.in-Object.members))
    (object_plain c.args.room _ c.if-room-gt0-2.true c.hold_plain.ensures.ordered (c.hold_plain.ensures.plain h))
