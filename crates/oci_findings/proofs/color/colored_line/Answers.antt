use Rattle.std.proofs.Common.{sym, subst, string_bytes}
use Rattle.oci_findings.specs.Colors.{IsColored}
use Rattle.oci_findings.specs.Colors.IsColored.{nothing}
use Rattle.oci_findings.proofs.color.colored_line.Goals as goal

pub returns : goal.returns
returns c =
    (string_bytes c.push_colored.new.line, c.in_ok-push_colored.ensures (subst IsColored (sym c.new-line.ensures.bytes) nothing), c.in_ok-push_str.ensures.bytes)
