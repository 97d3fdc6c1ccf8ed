use Rattle.std.proofs.Common.{◌≡◌, ◌<◌, ◌≤◌, Some, ◌∙◌, ap, arith, get_or, length, subst, sym}
use Rattle.std.proofs.lemmas.Result.{IfOk-weaker}
use Rattle.serde_json.specs.Data.{array}
use Rattle.serde_json.specs.View.{view, members_view}
use Rattle.serde_json.proofs.Views.{view-Array}
use Rattle.oci_schema.specs.Shapes.{part_shape}
use Rattle.oci_schema.proofs.Sizes.{member_smaller}
use Rattle.oci_commands.specs.Kept.{kept, kept_or}
use Rattle.oci_commands.proofs.KeptRecords.{items_end, items_less, items_more, record_kept}
use Rattle.oci_commands.proofs.kept.+keeps.Goals as goal

pub keep_items-loop-index-preserved : goal.keep_items-loop-index-preserved
keep_items-loop-index-preserved g t c =
    let k = kept (part_shape (g.T.Records.shape_at c.args.records.now) c.args.part.now) in
    let x = c.item-item.result in
    let items = c.args.items.now.items in
    let below : c.loop-index.index < length items = subst (λ q. c.loop-index.index < length q) c.deref-item-items.ensures.value c.loop-index-test.true in
    let same : x ≡ get_or items c.loop-index.index x = subst (λ q. x ≡ get_or q c.loop-index.index x) c.deref-item-items.ensures.value c.item-item.is in
    record {
      all =
          items_more k (view c.args.read.now) c.loop-index.index items c.loop-index.made.items c.push.new.self.items x c.in_ok-keep_part_or.field-0 _ below same
          c.in_ok-push.ensures.items (c.in_ok-keep_part_or.ensures ∙ ap (λ o. kept_or k o (view x)) c.get.ensures) c.loop-index.invariant.all;
      smaller = items_less c.loop-index.index _ items x below same c.loop-index.invariant.smaller;
    }

pub keep_items-returns : goal.keep_items-returns
keep_items-returns g t c =
    let over : length c.args.items.now.items ≤ c.loop-index.index = subst (λ q. length q ≤ c.loop-index.index) c.deref-item-items.ensures.value c.loop-index-test.false in
    view-Array c.loop-index.made
    ∙ ap array
    (items_end (kept (part_shape (g.T.Records.shape_at c.args.records.now) c.args.part.now)) (view c.args.read.now) c.loop-index.index c.args.items.now.items c.loop-index.made.items _ over c.loop-index.invariant.all)

pub keep_member-with_unknown-requires : goal.keep_member-with_unknown-requires
keep_member-with_unknown-requires g t c κs within =
    (omega (arith, member_smaller c.args.member.now.name.now (view c.args.canonical.now) (Some (view c.in-Some.value.now)) c.in-Some.ensures), within)

pub keep_record-returns-in-Some : goal.keep_record-returns-in-Some
keep_record-returns-in-Some g t c =
    IfOk-weaker c.keep_object.result _ _
    (λ v made. record_kept (g.T.Records.shape_at c.args.records.now c.args.place) (g.T.Records.shape_at c.args.records.now) c.record-record.result.now.members.now (view c.args.read.now) (view c.args.canonical.now)
    (view v) (members_view c.in-Some.field-0.now.entries) c.record-record.ensures (sym c.in-Some.ensures) made)
    c.keep_object.ensures
