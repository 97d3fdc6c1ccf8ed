use Rattle.std.proofs.Common.{◌≡◌, drop, map}
use Rattle.toml.specs.View.{items_view}
use Rattle.oci_rules.specs.Tables.{platform_of}
use Rattle.oci_policies.specs.Policies.{platform_in}
use Rattle.oci_policies.specs.Values.{behind, each}
use Rattle.oci_policies.proofs.rules.each_platform.Given as goal

-- what was read, and what is still to be read, is all
abbrev pub invariant-loop-item : goal.invariant-loop-item
invariant-loop-item l = behind (map platform_of l.found.items) (each platform_in (items_view (drop l.item-index l.item-items))) ≡ each platform_in (items_view l.items.items)
