use Rattle.std.proofs.Common.{take, string_bytes}
use Rattle.oci_commands.specs.Texts.{Joins}
use Rattle.oci_commands.specs.Tables.{IsMemberLine}
use Rattle.oci_commands.proofs.table.member_lines.Given as goal

abbrev pub invariant-loop-member : goal.invariant-loop-member
invariant-loop-member g l = Joins (IsMemberLine (g.T.Records.shape_at l.table)) (take l.member-index l.members) (string_bytes l.lines)
