use Rattle.std.proofs.Common.{length, string_bytes}
use Rattle.oci_findings.proofs.Facts.{both_lines}
use Rattle.oci_findings.proofs.render.lines_of.Goals as goal

pub returns : goal.returns
returns c =
    both_lines c.args.colored (string_bytes c.new-lines.result) (string_bytes c.push_lines.new.lines) (string_bytes c.push_lines-2.new.lines) (length c.args.report.now.errors.items) (length c.args.report.now.warnings.items)
    c.new-lines.ensures.bytes c.in_ok-push_lines.ensures c.in_ok-push_lines-2.ensures
