use Rattle.std.proofs.Common.{length}
use Rattle.oci_findings.specs.LeftOut.{Adds}
use Rattle.oci_findings.proofs.left_out.add_all.Given as goal

abbrev pub invariant-each_inner : goal.invariant-each_inner
invariant-each_inner l = Adds l.at l.initial.found.items l.found.items

abbrev pub decreases-each_inner : goal.decreases-each_inner
decreases-each_inner l = length l.rest
