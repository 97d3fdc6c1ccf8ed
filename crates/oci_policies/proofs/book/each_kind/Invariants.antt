use Rattle.std.proofs.Common.{◌≡◌, drop}
use Rattle.toml.specs.View.{items_view}
use Rattle.oci_policies.specs.Policies.{kind_in}
use Rattle.oci_policies.specs.Values.{behind, each}
use Rattle.oci_policies.proofs.book.each_kind.Given as goal

-- what was read, and what is still to be read, is all
abbrev pub invariant-loop-item : goal.invariant-loop-item
invariant-loop-item l = behind l.found.items (each kind_in (items_view (drop l.item-index l.item-items))) ≡ each kind_in (items_view l.items.items)
