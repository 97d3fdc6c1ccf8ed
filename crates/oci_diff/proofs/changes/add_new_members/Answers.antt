use Rattle.std.proofs.Common.{◌≡◌, rules, arith}
use Rattle.serde_json.specs.View.{view, members_view}
use Rattle.oci_diff.proofs.Adds.{in_turn, first_have, rest_among}
use Rattle.std.specs.Prelude.{string_bytes}
use Rattle.serde_json.specs.Data.{no_members, member}
use Rattle.oci_diff.specs.Tells.{TellsNewMember}
use Rattle.oci_diff.proofs.Telling.{next_told, all_told}
use Rattle.oci_diff.proofs.changes.add_new_members.Goals as goal

pub loop-name-preserved : goal.loop-name-preserved
loop-name-preserved c =
    let split : members_view c.loop-name.name-iterator ≡ member (string_bytes c.in-Some.name.now) (view c.in-Some.other.now) (members_view c.next.new.self) = search rules in
    record {
      so = in_turn _ _ _ _ c.loop-name.invariant.so
          (c.in_ok-add_new_member.ensures.so (members_view c.args.others.now.entries) (first_have _ _ _ _ c.as_str.result.now _ split c.loop-name.invariant.among c.as_str.ensures.value));
      grows = omega (arith, c.loop-name.invariant.grows, c.in_ok-add_new_member.ensures.grows);
      told = next_told (λ list. TellsNewMember list c.args.at.now (view c.args.before.now)) _ _ _ _ c.as_str.result.now _ _ _ _ split c.as_str.ensures.value c.loop-name.invariant.told c.in_ok-add_new_member.ensures.told;
      among = rest_among _ _ _ _ _ split c.loop-name.invariant.among;
    }

pub returns-clause-told : goal.returns-clause-told
returns-clause-told c =
    let none : members_view c.loop-name.name-iterator ≡ no_members = search rules in
    all_told (λ list. TellsNewMember list c.args.at.now (view c.args.before.now)) _ _ _ _ none c.loop-name.invariant.told
