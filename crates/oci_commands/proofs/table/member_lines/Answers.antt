use Rattle.std.proofs.Common.{◌∙◌, ◌++◌, List, ℕ, ap, string_bytes}
use Rattle.oci_commands.specs.Tables.{IsMemberLine}
use Rattle.oci_commands.proofs.Lines.{joined_next}
use Rattle.oci_commands.proofs.table.member_lines.Goals as goal

pub loop-member-preserved : goal.loop-member-preserved
loop-member-preserved g c =
    joined_next (IsMemberLine (g.T.Records.shape_at c.args.table.now)) c.args.members.now c.loop-member.member-index _ (string_bytes c.loop-member.lines) (string_bytes c.in_ok-line.line) _
    c.loop-member-test.true (c.in_ok-push_str.ensures.bytes ∙ ap (λ (q : List ℕ). string_bytes c.loop-member.lines ++ q) c.as_str.ensures.value) c.loop-member.invariant
    c.in_ok-line.ensures
