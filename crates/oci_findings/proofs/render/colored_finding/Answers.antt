use Rattle.std.proofs.Common.{sym, subst, string_bytes}
use Rattle.oci_findings.specs.Colors.{IsColored}
use Rattle.oci_findings.specs.Colors.IsColored.{nothing}
use Rattle.oci_findings.proofs.render.colored_finding.Goals as goal

pub returns : goal.returns
returns c = (
  string_bytes c.push_part-2.new.line,
  c.in_ok-push_part-2.ensures (c.in_ok-push_colored-2.ensures (c.in_ok-push_part.ensures (c.in_ok-push_severity.ensures (c.in_ok-push_colored.ensures (subst IsColored (sym c.new-line.ensures.bytes) nothing))))),
  c.in_ok-push_str.ensures.bytes,
)
