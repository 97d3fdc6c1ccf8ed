use Rattle.std.proofs.Common.{refl, ap, rules, arith}
use borrow.Author.Tests.{tests}
use Rattle.oci_schema.specs.Shapes.{members_in, part_shape, schema_shape}
use Rattle.oci_schema.proofs.NormalMembers.{members_normal}
use Rattle.oci_schema.proofs.NormalParts.{in_order, list_normal, map_normal}
use Rattle.oci_schema.proofs.Steps.{items_left, normal_left, none_left_normal, well_left, well_later, entry_here, entry_later}
use Rattle.oci_model.specs.Sizes.{items_size}
use Rattle.serde_json.specs.View.{view}
use Rattle.oci_schema.proofs.kept.+keeps.Goals as goal

pub are_normal_entries-returns-then-not-is_normal_entry-clause-ordered : goal.are_normal_entries-returns-then-not-is_normal_entry-clause-ordered
are_normal_entries-returns-then-not-is_normal_entry-clause-ordered g t c = in_order _ c.iter-name-items.ensures.ordered

pub are_normal_entries-returns-clause-ordered : goal.are_normal_entries-returns-clause-ordered
are_normal_entries-returns-clause-ordered g t c = in_order _ c.iter-name-items.ensures.ordered

pub are_normal_members-returns-then-has_all : goal.are_normal_members-returns-then-has_all
are_normal_members-returns-then-has_all g t c =
    let f = g.T.Records.shape_at c.args.records.now in
    λ h. members_normal (members_in f c.args.members.now) _ c.requires.distinct c.are_normal_entries.ensures.ordered (c.are_normal_entries.ensures.normal h) (c.has_all.ensures f c.if-has_all.true)

pub is_normal_value-returns-in-Some : goal.is_normal_value-returns-in-Some
is_normal_value-returns-in-Some g t c =
    let f = g.T.Records.shape_at c.args.records.now in
    λ h. list_normal _ (part_shape f c.in-List.part) _ _ (ap (schema_shape f) c.in-List.is) c.in-Some.ensures (c.are_normal.ensures h)

pub is_normal_value-returns-in-Some-as_object : goal.is_normal_value-returns-in-Some-as_object
is_normal_value-returns-in-Some-as_object g t c =
    let f = g.T.Records.shape_at c.args.records.now in
    λ h. map_normal _ (part_shape f c.in-Map.part) _ _ (ap (schema_shape f) c.in-Map.is) c.in-Some-as_object.ensures (c.hold_normal.ensures h)

pub are_normal-is_normal_part-requires : goal.are_normal-is_normal_part-requires
are_normal-is_normal_part-requires g t c κs within =
    let cut = ap items_size (items_left c.deref-item-items.result.now c.loop-item.item-index c.item-item.result c.loop-item-test.true c.item-item.is) in
    (omega (arith, cut, c.loop-item.invariant.smaller), (within, c.requires))

pub are_normal-loop-item-preserved : goal.are_normal-loop-item-preserved
are_normal-loop-item-preserved g t c =
    let cut = ap items_size (items_left c.deref-item-items.result.now c.loop-item.item-index c.item-item.result c.loop-item-test.true c.item-item.is) in
    record {
      normal = λ h. c.loop-item.invariant.normal
          (normal_left c.deref-item-items.result.now c.loop-item.item-index c.item-item.result c.loop-item-test.true c.item-item.is _ (c.if-not-is_normal_part.ensures refl) h);
      smaller = omega (arith, cut, c.loop-item.invariant.smaller);
    }

pub are_normal-returns : goal.are_normal-returns
are_normal-returns g t c = λ h. c.loop-item.invariant.normal (none_left_normal _ c.deref-item-items.result.now c.loop-item.item-index c.loop-item-test.false)

pub is_normal_entry-is_normal_member-requires : goal.is_normal_entry-is_normal_member-requires
is_normal_entry-is_normal_member-requires g t c κs within =
    (omega arith, (within, (well_left (g.T.Records.shape_at c.args.records.now) c.args.members.now c.loop-member.member-index _ c.loop-member-test.true c.loop-member.invariant.well).0))

pub is_normal_entry-returns-then-eq : goal.is_normal_entry-returns-then-eq
is_normal_entry-returns-then-eq g t c =
    λ h. c.loop-member.invariant.normal
    (entry_here (g.T.Records.shape_at c.args.records.now) c.args.members.now c.loop-member.member-index _ c.loop-member-test.true c.args.name.now (view c.args.value.now) (search (tests, rules)) (c.is_normal_member.ensures h))

pub is_normal_entry-loop-member-preserved : goal.is_normal_entry-loop-member-preserved
is_normal_entry-loop-member-preserved g t c =
    let f = g.T.Records.shape_at c.args.records.now in
    record {
      normal = λ h. c.loop-member.invariant.normal (entry_later f c.args.members.now c.loop-member.member-index c.loop-member-test.true _ _ h);
      well = well_later f c.args.members.now c.loop-member.member-index c.loop-member-test.true c.loop-member.invariant.well;
    }
