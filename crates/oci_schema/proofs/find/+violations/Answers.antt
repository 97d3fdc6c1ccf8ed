use Rattle.std.proofs.Common.{refl, ap, ◌∙◌, ◌+◌, drop, length, arith, option_map}
use Rattle.std.proofs.lemmas.Result.{IfOk-from_err}
use Rattle.serde_json.specs.View.{view, items_view, members_view}
use Rattle.oci_model.specs.Sizes.{items_size, members_size}
use Rattle.oci_schema.specs.Shapes.{part_shape}
use Rattle.oci_schema.specs.Places.{pointer, under_name}
use Rattle.oci_schema.specs.Violations.{violations}
use Rattle.oci_schema.proofs.ListedParts.{item_more, entry_more, no_item_more, member_more, no_member_more}
use Rattle.oci_schema.proofs.Steps.{items_left}
use Rattle.oci_schema.proofs.Sizes.{member_smaller}
use Rattle.oci_schema.proofs.find.+violations.Goals as goal

pub add_member-add_found-requires : goal.add_member-add_found-requires
add_member-add_found-requires g t c κs within =
    (omega (arith, member_smaller c.args.member.now.name.now (view c.args.value.now) (option_map (λ v. view v.now) c.get-there.result) c.get-there.ensures), within)

pub add_member-add_found-requires-then-is_none : goal.add_member-add_found-requires-then-is_none
add_member-add_found-requires-then-is_none g t c κs within =
    (omega (arith, member_smaller c.args.member.now.name.now (view c.args.value.now) (option_map (λ v. view v.now) c.get-there.result) c.get-there.ensures), within)

pub add_member-add_found-requires-then-is_none-2 : goal.add_member-add_found-requires-then-is_none-2
add_member-add_found-requires-then-is_none-2 g t c κs within =
    (omega (arith, member_smaller c.in-Some.alias.now (view c.args.value.now) (option_map (λ v. view v.now) c.get-other.result) c.get-other.ensures), within)

pub add_items-add_part-requires : goal.add_items-add_part-requires
add_items-add_part-requires g t c κs within =
    let same = c.deref-item-items.ensures.value in
    let cut = ap items_size (items_left c.deref-item-items.result.now c.loop-index.index c.item-item.result c.loop-index-test.true c.item-item.is) in
    let all = ap (λ vs. items_size (items_view (drop c.loop-index.index vs))) same in
    (omega (arith, cut, all, c.loop-index.invariant.smaller), within)

pub add_items-loop-index-preserved : goal.add_items-loop-index-preserved
add_items-loop-index-preserved g t c =
    let i = c.loop-index.index in
    let same = c.deref-item-items.ensures.value in
    let cut = ap items_size (items_left c.deref-item-items.result.now i c.item-item.result c.loop-index-test.true c.item-item.is) in
    let now = ap (λ vs. items_size (items_view (drop i vs))) same in
    let later = ap (λ vs. items_size (items_view (drop (i + 1) vs))) same in
    record {
      all =
          item_more (violations (part_shape (g.T.Records.shape_at c.args.records.now) c.args.part.now)) (pointer c.args.at.now) _ _ _ c.item-item.result c.in_ok-add_part.ensures i
          c.deref-item-items.result.now _ same c.loop-index-test.true c.item-item.is refl ∙ c.loop-index.invariant.all;
      smaller = omega (arith, cut, now, later, c.loop-index.invariant.smaller);
    }

pub add_items-returns : goal.add_items-returns
add_items-returns g t c =
    no_item_more (violations (part_shape (g.T.Records.shape_at c.args.records.now) c.args.part.now)) (pointer c.args.at.now) _ c.loop-index.index
    c.deref-item-items.result.now _ c.deref-item-items.ensures.value c.loop-index-test.false ∙ c.loop-index.invariant.all

pub add_entries-loop-name-preserved : goal.add_entries-loop-name-preserved
add_entries-loop-name-preserved g t c =
    let steps = ap members_view c.in-Some.ensures.steps in
    let cut = ap members_size steps in
    let there = ap (under_name (pointer c.args.at.now)) c.as_str.ensures.value in
    record {
      all =
          entry_more (violations (part_shape (g.T.Records.shape_at c.args.records.now) c.args.part.now)) (pointer c.args.at.now) _ _ _ c.in-Some.entry.now c.in_ok-add_part.ensures
          _ _ _ steps there ∙ c.loop-name.invariant.all;
      smaller = omega (arith, cut, c.loop-name.invariant.smaller);
    }

pub add_members-loop-member-preserved : goal.add_members-loop-member-preserved
add_members-loop-member-preserved g t c =
    member_more (g.T.Records.shape_at c.args.records.now) c.args.members.now c.loop-member.member-index _ (pointer c.args.at.now) (view c.args.value.now) _ _
    c.loop-member-test.true c.in_ok-add_member.ensures ∙ c.loop-member.invariant

pub add_members-returns : goal.add_members-returns
add_members-returns g t c =
    no_member_more (g.T.Records.shape_at c.args.records.now) c.args.members.now c.loop-member.member-index (pointer c.args.at.now) (view c.args.value.now) _
    c.loop-member-test.false ∙ c.loop-member.invariant

-- ---- at the exits

pub add_items-returns-in_err-add_part : goal.add_items-returns-in_err-add_part
add_items-returns-in_err-add_part g t c = IfOk-from_err _ _ c.from_residual.ensures.0

pub add_entries-returns-in_err-add_part : goal.add_entries-returns-in_err-add_part
add_entries-returns-in_err-add_part g t c = IfOk-from_err _ _ c.from_residual.ensures.0

pub add_members-returns-in_err-add_member : goal.add_members-returns-in_err-add_member
add_members-returns-in_err-add_member g t c = IfOk-from_err _ _ c.from_residual.ensures.0

-- ---- that the walk ends

pub add_entries-loop-name-smaller : goal.add_entries-loop-name-smaller
add_entries-loop-name-smaller g t c = omega (arith, ap length c.in-Some.ensures.steps)
