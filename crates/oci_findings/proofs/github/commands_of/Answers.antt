use Rattle.std.proofs.Common.{false, length, string_bytes}
use Rattle.oci_findings.proofs.Facts.{both_lines}
use Rattle.oci_findings.proofs.github.commands_of.Goals as goal

pub returns : goal.returns
returns c =
    both_lines false (string_bytes c.new-lines.result) (string_bytes c.push_commands.new.lines) (string_bytes c.push_commands-2.new.lines) (length c.args.report.now.errors.items) (length c.args.report.now.warnings.items)
    c.new-lines.ensures.bytes c.in_ok-push_commands.ensures c.in_ok-push_commands-2.ensures
