use Rattle.oci_findings.specs.Contents.{fact}
use Rattle.oci_findings.specs.Findings.{told}
use Rattle.oci_findings.proofs.Facts.{pushed_one}
use Rattle.oci_findings.proofs.shown.add_violation.Goals as goal

pub returns-clause-told : goal.returns-clause-told
returns-clause-told c = pushed_one told _ _ _ _ c.in_ok-push.ensures.items c.in_ok-finding.ensures.told

pub returns-clause-fact : goal.returns-clause-fact
returns-clause-fact c = pushed_one fact _ _ _ _ c.in_ok-push.ensures.items c.in_ok-finding.ensures.fact
