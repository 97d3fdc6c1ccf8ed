use Rattle.std.proofs.Common.{◌≡◌, drop, map}
use Rattle.toml.specs.View.{items_view}
use Rattle.oci_policies.specs.Places.{steps_in}
use Rattle.oci_policies.specs.Steps.{steps_view}
use Rattle.oci_policies.specs.Values.{behind, each}
use Rattle.oci_policies.proofs.rules.each_place.Given as goal

-- what was read, and what is still to be read, is all
abbrev pub invariant-loop-item : goal.invariant-loop-item
invariant-loop-item l = behind (map (λ s. steps_view s.items) l.found.items) (each steps_in (items_view (drop l.item-index l.item-items))) ≡ each steps_in (items_view l.items.items)
