use Rattle.std.proofs.Common.{◌≡◌, length}
use Rattle.oci_findings.proofs.examine.findings_of.Given as goal

abbrev pub invariant-loop-member : goal.invariant-loop-member
invariant-loop-member l = length l.found.items ≡ l.member-index
