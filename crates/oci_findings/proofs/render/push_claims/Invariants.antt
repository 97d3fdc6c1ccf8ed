use denote.Text.{Utf8}
use denote.Shadow.{shadow}
use Rattle.oci_findings.proofs.render.push_claims.Given as goal

-- each mark is text
abbrev pub invariant-loop-claimant : goal.invariant-loop-claimant
invariant-loop-claimant l =
    (goal.iterator-loop-claimant).can_next l.claimant-iterator × (goal.iterator-loop-claimant).is_finite l.claimant-iterator × shadow (Utf8 l.mark)
