-- What was tested so far, and what is left.
use Rattle.std.proofs.Common.{◌≡◌, ◌&&◌, length}
use Rattle.oci_grammars.specs.Decided.{are_joined}
use Rattle.oci_grammars.proofs.parts.Part.joins.Given as goal

abbrev pub invariant-loop-mark : goal.invariant-loop-mark
invariant-loop-mark l = (l.sound && are_joined l.self l.mark l.rest) ≡ are_joined l.self l.mark l.text

abbrev pub decreases-loop-mark : goal.decreases-loop-mark
decreases-loop-mark l = length l.rest
