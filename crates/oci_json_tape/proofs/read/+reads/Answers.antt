use Rattle.std.proofs.Common.{◌≡◌, ◌≤◌, string_bytes, refl, sym, ap, ◌∙◌, subst, arith, rules}
use Rattle.serde_json.specs.Data.{Data, depth, items_depth, array, object}
use Rattle.serde_json.specs.View.{items_view}
use Rattle.serde_json.proofs.Views.{view-Array, view-Object}
use Rattle.oci_json_tape.specs.Elements.{BeginsWithData}
use Rattle.oci_json_tape.proofs.Made.{ItemsMade, made_value, array_made, object_made, items_more, items_over, members_more, members_over}
use Rattle.oci_json_tape.proofs.Nesting.{item_nests, member_nests}
use Rattle.oci_json_tape.proofs.read.+reads.Goals as goal

pub value_of-returns-in-Some-clause-value : goal.value_of-returns-in-Some-clause-value
value_of-returns-in-Some-clause-value t c = array_made c.array_of.result c.args.element.now c.in-Some.rest c.in-Some.ensures c.array_of.ensures.value

pub value_of-returns-in-Some-members-clause-value : goal.value_of-returns-in-Some-members-clause-value
value_of-returns-in-Some-members-clause-value t c = object_made c.object_of.result c.args.element.now c.in-Some-members.rest c.in-Some-members.ensures c.object_of.ensures.value

pub array_of-each_item-init : goal.array_of-each_item-init
array_of-each_item-init t c = record {
  value = λ ds at. subst (λ vs. ItemsMade ds vs c.args.rest) (sym c.new-found.ensures.items) (ds, at, refl);
  nests = subst (λ vs. items_depth (items_view vs) ≤ c.args.depth) (sym c.new-found.ensures.items) (omega arith);
}

pub array_of-each_item-preserved : goal.array_of-each_item-preserved
array_of-each_item-preserved t c =
    let l = c.each_item in
    let v = c.in-Some-2.value in
    let is = made_value c.in_ok-value.field-0 v (λ x. (d : Data) → BeginsWithData c.in-Some.item d → x ≡ d) c.in-Some-2.is c.in_ok-value.ensures.value in
    let nests = made_value c.in_ok-value.field-0 v (λ x. depth x ≤ c.args.depth) c.in-Some-2.is c.in_ok-value.ensures.nests in
    let add = c.in_ok-push-in-Some-2.ensures.items in
    record {
      value = λ ds at. items_more ds l.found.items l.rest c.next_item.new.items c.in-Some.item v _ c.in-Some.ensures.value is add (l.invariant.value ds at);
      nests = item_nests l.found.items _ v c.args.depth add nests l.invariant.nests;
    }

pub array_of-returns-clause-value : goal.array_of-returns-clause-value
array_of-returns-clause-value t c = λ ds at.
    view-Array c.each_item.found ∙ ap array (items_over ds c.each_item.found.items c.each_item.rest c.next_item.new.items c.in_default.ensures.value (c.each_item.invariant.value ds at))

pub object_of-each_member-preserved : goal.object_of-each_member-preserved
object_of-each_member-preserved t c =
    let l = c.each_member in
    let v = c.in-Some-2.value in
    let named : string_bytes c.in_ok-key.key ≡ c.in-Some.name.now = search rules in
    let is = made_value c.in_ok-value.field-0 v (λ x. (d : Data) → BeginsWithData c.in-Some.member d → x ≡ d) c.in-Some-2.is c.in_ok-value.ensures.value in
    let nests = made_value c.in_ok-value.field-0 v (λ x. depth x ≤ c.args.depth) c.in-Some-2.is c.in_ok-value.ensures.nests in
    let add = c.in_ok-insert-in-Some-2.ensures.entries in
    record {
      value = λ ms at. members_more ms l.found.entries l.rest c.next_member.new.members (c.in-Some.name.now, c.in-Some.member) c.in_ok-key.key v _ c.in-Some.ensures.value named is add (l.invariant.value ms at);
      nests = member_nests l.found.entries _ c.in_ok-key.key v c.args.depth add nests l.invariant.nests;
    }

pub object_of-returns-clause-value : goal.object_of-returns-clause-value
object_of-returns-clause-value t c = λ ms at.
    view-Object c.each_member.found ∙ ap object (members_over ms c.each_member.found.entries c.each_member.rest c.next_member.new.members c.in_default.ensures.value (c.each_member.invariant.value ms at))
