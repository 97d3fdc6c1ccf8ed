use Rattle.std.proofs.Common.{◌≡◌, take, map}
use Rattle.oci_findings.specs.Contents.{fact, violation_fact}
use Rattle.oci_findings.specs.Findings.{told, told_of}
use Rattle.oci_findings.proofs.shown.violation_findings.Given as goal

abbrev pub invariant-loop-violation : goal.invariant-loop-violation
invariant-loop-violation l = record {
  told : map told l.found.items ≡ map told_of (take l.violation-index l.violation-items);
  facts : map fact l.found.items ≡ map violation_fact (take l.violation-index l.violation-items);
}
