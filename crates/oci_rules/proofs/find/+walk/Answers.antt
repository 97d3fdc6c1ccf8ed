use Rattle.std.proofs.Common.{◌∙◌, ap, refl, string_bytes}
use Rattle.serde_json.specs.Data.{string}
use Rattle.serde_json.specs.View.{view, members_view}
use Rattle.oci_schema.specs.Places.{pointer, under_name}
use Rattle.oci_rules.specs.Tables.{rule_of, test_of, place_of}
use Rattle.oci_rules.specs.Listed.{told_by, told_at}
use Rattle.oci_rules.proofs.PartsTold.{view_string, item_more, member_more, name_more, no_item_more}
use Rattle.oci_rules.proofs.find.+walk.Goals as goal

pub add_items-loop-index-preserved : goal.add_items-loop-index-preserved
add_items-loop-index-preserved t c =
    item_more (told_at (view c.args.asked.document.now) (place_of c.args.steps.now) (told_by (test_of c.args.asked.rule.now.test) (rule_of c.args.asked.rule.now))) (pointer c.args.at.now) _ _ _
    c.item-item.result c.in_ok-add_at.ensures c.loop-index.index c.deref-item-items.result.now _ c.deref-item-items.ensures.value c.loop-index-test.true c.item-item.is
    refl ∙ c.loop-index.invariant

pub add_items-returns : goal.add_items-returns
add_items-returns t c =
    no_item_more (told_at (view c.args.asked.document.now) (place_of c.args.steps.now) (told_by (test_of c.args.asked.rule.now.test) (rule_of c.args.asked.rule.now))) (pointer c.args.at.now) _
    c.loop-index.index c.deref-item-items.result.now _ c.deref-item-items.ensures.value c.loop-index-test.false ∙ c.loop-index.invariant

pub add_members-loop-name-preserved : goal.add_members-loop-name-preserved
add_members-loop-name-preserved t c =
    member_more (told_at (view c.args.asked.document.now) (place_of c.args.steps.now) (told_by (test_of c.args.asked.rule.now.test) (rule_of c.args.asked.rule.now))) (pointer c.args.at.now) _ _ _
    _ c.in_ok-add_at.ensures _ _ _ (ap members_view c.in-Some.ensures.steps)
    (ap (under_name (pointer c.args.at.now)) c.as_str.ensures.value) ∙ c.loop-name.invariant

pub add_names-loop-name-preserved : goal.add_names-loop-name-preserved
add_names-loop-name-preserved t c =
    name_more (told_at (view c.args.asked.document.now) (place_of c.args.steps.now) (told_by (test_of c.args.asked.rule.now.test) (rule_of c.args.asked.rule.now))) (pointer c.args.at.now) _ _ _
    _ c.in_ok-add_at.ensures (string_bytes c.in-Some.name.now) (view_string c.in_ok-from_str.field-0 ∙ ap string (c.in_ok-from_str.ensures.ok ∙ c.as_str-in-loop-name.ensures.value)) _ _ _
    (ap members_view c.in-Some.ensures.steps)
    (ap (under_name (pointer c.args.at.now)) c.as_str.ensures.value) ∙ c.loop-name.invariant
