use Rattle.std.proofs.Common.{take}
use Rattle.serde_json.specs.View.{items_view}
use Rattle.oci_text.specs.Capability.{capability_table}
use Rattle.oci_model.specs.Means.{AreCapabilities}
use Rattle.oci_text.proofs.CapSets.{IsSetOfItems}
use Rattle.oci_text.proofs.capabilities.read_set.Given as goal

abbrev pub invariant-loop-item : goal.invariant-loop-item
invariant-loop-item l = record {
  are : AreCapabilities capability_table (items_view (take l.item-index l.item-items));
  set : IsSetOfItems (take l.item-index l.item-items) l.read;
}
