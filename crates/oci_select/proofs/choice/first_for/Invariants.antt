use Rattle.std.proofs.Common.{ℕ, ◌<◌}
use Rattle.oci_select.specs.Chosen.{IsForAt}
use Rattle.oci_select.specs.Told.{told}
use Rattle.oci_select.proofs.choice.first_for.Given as goal

-- none of the manifests so far is for it
abbrev pub invariant-loop-i : goal.invariant-loop-i
invariant-loop-i l = (j : ℕ) → j < l.i → ¬ IsForAt l.manifests l.wanted (told l.names) j
