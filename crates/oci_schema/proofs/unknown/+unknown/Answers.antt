use Rattle.std.proofs.Common.{arith, option_map}
use Rattle.serde_json.specs.View.{view}
use Rattle.oci_schema.specs.Places.{pointer}
use Rattle.oci_schema.proofs.Sizes.{member_smaller}
use Rattle.oci_schema.proofs.Own.{record_more}
use Rattle.oci_schema.proofs.unknown.+unknown.Goals as goal

pub add_member-add_found-requires : goal.add_member-add_found-requires
add_member-add_found-requires g t c κs within =
    (omega (arith, member_smaller c.args.member.now.name.now (view c.args.value.now) (option_map (λ v. view v.now) c.get.result) c.get.ensures), within)

pub add_member-add_found-requires-in-Some : goal.add_member-add_found-requires-in-Some
add_member-add_found-requires-in-Some g t c κs within =
    (omega (arith, member_smaller c.in-Some.alias.now (view c.args.value.now) (option_map (λ v. view v.now) c.get-in-Some.result) c.get-in-Some.ensures), within)

pub add_record-returns : goal.add_record-returns
add_record-returns g t c =
    record_more (g.T.Records.shape_at c.args.records.now c.args.place) (g.T.Records.shape_at c.args.records.now) c.record-record.result.now.members.now (pointer c.args.at.now) (view c.args.value.now) _ _ _
    c.record-record.ensures c.in_ok-add_own.ensures c.in_ok-add_members.ensures
