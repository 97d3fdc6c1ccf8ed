use Rattle.std.proofs.Common.{ℕ, ◌<◌}
use Rattle.oci_select.specs.Chosen.{RunsAt}
use Rattle.oci_select.proofs.choice.first_of.Given as goal

-- no manifest has one of the places so far
abbrev pub invariant-loop-names : goal.invariant-loop-names
invariant-loop-names l = (place : ℕ) → place < l.names-index → (i : ℕ) → ¬ RunsAt l.manifests l.wanted i place
