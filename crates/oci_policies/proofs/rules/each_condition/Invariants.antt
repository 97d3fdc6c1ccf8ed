use Rattle.std.proofs.Common.{◌≡◌, drop}
use Rattle.toml.specs.View.{items_view}
use Rattle.oci_policies.specs.Policies.{step_if}
use Rattle.oci_policies.specs.Steps.{steps_view}
use Rattle.oci_policies.specs.Values.{behind, each}
use Rattle.oci_policies.proofs.rules.each_condition.Given as goal

-- what was read, and what is still to be read, is all
abbrev pub invariant-loop-item : goal.invariant-loop-item
invariant-loop-item l = behind (steps_view l.found.items) (each step_if (items_view (drop l.item-index l.item-items))) ≡ each step_if (items_view l.items.items)
