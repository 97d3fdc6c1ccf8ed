use Rattle.std.proofs.Common.{◌≡◌, length}
use Rattle.oci_findings.proofs.repeated.findings_at.Given as goal

abbrev pub invariant-loop-pointer : goal.invariant-loop-pointer
invariant-loop-pointer l = length l.found.items ≡ length l.yielded
