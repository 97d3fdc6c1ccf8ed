use Rattle.std.proofs.Common.{false, string_bytes, rules}
use Rattle.oci_findings.proofs.Facts.{counted}
use Rattle.oci_findings.proofs.github.push_commands.Goals as goal

pub loop-finding-preserved : goal.loop-finding-preserved
loop-finding-preserved c =
    λ n h. counted false n c.loop-finding.finding-index (string_bytes c.push_new.new.lines) (c.in_ok-push_new.ensures false (search rules) _ (c.loop-finding.invariant n h))
