-- What is left compares as all does.
use Rattle.std.proofs.Common.{◌≡◌, length}
use Rattle.oci_grammars.specs.Precedence.{parts_cmp}
use Rattle.oci_grammars.proofs.precedence.compare_parts.Given as goal

abbrev pub invariant-loop-left : goal.invariant-loop-left
invariant-loop-left l = parts_cmp l.left l.right ≡ parts_cmp l.first l.second

abbrev pub decreases-loop-left : goal.decreases-loop-left
decreases-loop-left l = length l.left
