use Rattle.std.proofs.Common.{sym, ap, ◌∙◌, arith, option_map, Some}
use Rattle.serde_json.specs.View.{view}
use Rattle.oci_schema.proofs.Sizes.{member_smaller}
use Rattle.oci_schema.proofs.check.+checks.Goals as goal

pub check_member-check_found-requires : goal.check_member-check_found-requires
check_member-check_found-requires g t c κs within =
    (omega (arith, member_smaller c.args.member.now.name.now (view c.args.value.now) (option_map (λ v. view v.now) c.get-found.result) c.get-found.ensures), within)

pub check_member-check_found-requires-in-None-get : goal.check_member-check_found-requires-in-None-get
check_member-check_found-requires-in-None-get g t c κs within =
    (omega (arith, member_smaller c.args.member.now.name.now (view c.args.value.now) (option_map (λ v. view v.now) c.get-found.result) c.get-found.ensures), within)

pub check_member-check_found-requires-then-is_none : goal.check_member-check_found-requires-then-is_none
check_member-check_found-requires-then-is_none g t c κs within =
    (omega (arith, member_smaller c.in-Some.alias.now (view c.args.value.now) (Some (view c.in-Some-get.other.now)) (ap (option_map (λ v. view v.now)) (sym c.in-Some-get.is) ∙ c.get.ensures)), within)
