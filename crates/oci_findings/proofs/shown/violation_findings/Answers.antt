use Rattle.std.proofs.Common.{[]}
use Rattle.oci_findings.specs.Contents.{fact, violation_fact}
use Rattle.oci_findings.specs.Findings.{told, told_of}
use Rattle.oci_findings.proofs.Facts.{made_more}
use Rattle.oci_findings.proofs.shown.violation_findings.Goals as goal

pub loop-violation-preserved : goal.loop-violation-preserved
loop-violation-preserved c = record {
  told = made_more told told_of _ c.loop-violation.found.items [] c.deref-violation-items.result.now c.loop-violation.violation-index c.violation-item.result c.loop-violation-test.true c.violation-item.is c.in_ok-add_violation.ensures.told c.loop-violation.invariant.told;
  facts = made_more fact violation_fact _ c.loop-violation.found.items [] c.deref-violation-items.result.now c.loop-violation.violation-index c.violation-item.result c.loop-violation-test.true c.violation-item.is c.in_ok-add_violation.ensures.fact c.loop-violation.invariant.facts;
}
