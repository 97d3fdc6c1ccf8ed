use Rattle.std.proofs.Common.{◌≡◌, drop}
use Rattle.serde_json.specs.View.{items_view}
use Rattle.oci_rules.specs.Decided.{all_items}
use Rattle.oci_agreement.specs.Listed.{is_layer}
use Rattle.oci_agreement.proofs.layers.is_each_layer.Given as goal

abbrev pub invariant-loop-layer : goal.invariant-loop-layer
invariant-loop-layer l = all_items is_layer (items_view l.layers.items) ≡ all_items is_layer (items_view (drop l.layer-index l.layer-items))
