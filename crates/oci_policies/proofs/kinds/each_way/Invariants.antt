use Rattle.std.proofs.Common.{◌≡◌, drop}
use Rattle.toml.specs.View.{items_view}
use Rattle.oci_rules.specs.Tables.{ways_of}
use Rattle.oci_policies.specs.Places.{way_in}
use Rattle.oci_policies.specs.Values.{behind, each}
use Rattle.oci_policies.proofs.kinds.each_way.Given as goal

-- what was read, and what is still to be read, is all
abbrev pub invariant-loop-item : goal.invariant-loop-item
invariant-loop-item l = behind (ways_of l.found.items) (each way_in (items_view (drop l.item-index l.item-items))) ≡ each way_in (items_view l.items.items)
