use Rattle.std.proofs.Common.{length}
use Rattle.oci_findings.specs.LeftOut.{Adds}
use Rattle.oci_findings.proofs.left_out.add_inner.Given as goal

abbrev pub invariant-each_key : goal.invariant-each_key
invariant-each_key l = Adds l.at l.initial.found.items l.found.items

abbrev pub decreases-each_key : goal.decreases-each_key
decreases-each_key l = length l.rest
