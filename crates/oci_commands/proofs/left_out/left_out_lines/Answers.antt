use Rattle.std.proofs.Common.{◌≡◌, ◌<◌, length, get_or, arith, rules}
use Rattle.std.specs.Prelude.{string_bytes}
use Rattle.oci_commands.specs.LeftOut.{IsChangeLine}
use Rattle.oci_commands.proofs.Lines.{joined_more, joined_all}
use Rattle.oci_commands.proofs.left_out.left_out_lines.Goals as goal

pub loop-member-preserved : goal.loop-member-preserved
loop-member-preserved c =
    let lt : c.loop-member.member-index < length c.args.found.now.items = search rules in
    let same : c.member-item.result ≡ get_or c.args.found.now.items c.loop-member.member-index c.member-item.result = search rules in
    joined_more IsChangeLine c.args.found.now.items c.loop-member.member-index c.member-item.result (string_bytes c.loop-member.lines) _ _ lt same c.in_ok-push_str.ensures.bytes c.loop-member.invariant (search rules)

pub returns : goal.returns
returns c = joined_all IsChangeLine c.args.found.now.items c.loop-member.member-index (string_bytes c.loop-member.lines) (omega arith) c.loop-member.invariant
