use Rattle.std.proofs.Common.{ℕ, ◌<◌}
use Rattle.oci_layout.proofs.Findings.{IsFineAt}
use Rattle.oci_layout.proofs.fine.are_fine.Given as goal

abbrev pub invariant-each : goal.invariant-each
invariant-each l = (k : ℕ) → k < l.place → IsFineAt l.claims l.faults k
