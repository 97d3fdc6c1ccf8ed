use Rattle.std.proofs.Common.{◌≡◌, drop}
use Rattle.serde_json.specs.View.{items_view}
use Rattle.oci_schema.specs.Allows.{each_allowed, names_capability}
use Rattle.oci_text.specs.Capability.{capability_table}
use Rattle.oci_schema.proofs.scalar.are_capabilities.Given as goal

abbrev pub invariant-loop-item : goal.invariant-loop-item
invariant-loop-item l = each_allowed (names_capability capability_table) (items_view l.items.items) ≡ each_allowed (names_capability capability_table) (items_view (drop l.item-index l.item-items))
