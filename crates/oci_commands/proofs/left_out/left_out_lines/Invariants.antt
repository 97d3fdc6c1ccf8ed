use Rattle.std.proofs.Common.{take}
use Rattle.std.specs.Prelude.{string_bytes}
use Rattle.oci_commands.specs.LeftOut.{IsChangeLine}
use Rattle.oci_commands.specs.Texts.{Joins}
use Rattle.oci_commands.proofs.left_out.left_out_lines.Given as goal

abbrev pub invariant-loop-member : goal.invariant-loop-member
invariant-loop-member l = Joins IsChangeLine (take l.member-index l.found.items) (string_bytes l.lines)
