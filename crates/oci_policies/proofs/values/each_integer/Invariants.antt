use Rattle.std.proofs.Common.{◌≡◌, drop}
use Rattle.toml.specs.View.{items_view}
use Rattle.toml.specs.Data.{as_integer}
use Rattle.oci_policies.specs.Values.{behind, each}
use Rattle.oci_policies.proofs.values.each_integer.Given as goal

abbrev pub invariant-loop-item : goal.invariant-loop-item
invariant-loop-item l = behind l.found.items (each as_integer (items_view (drop l.item-index l.item-items))) ≡ each as_integer (items_view l.items.items)
