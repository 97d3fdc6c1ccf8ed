use Rattle.std.proofs.Common.{◌≡◌, drop}
use Rattle.serde_json.specs.View.{items_view}
use Rattle.oci_rules.specs.Decided.{are_apart}
use Rattle.oci_rules.proofs.apart.are_apart.Given as goal

abbrev pub invariant-loop-item : goal.invariant-loop-item
invariant-loop-item l = are_apart l.name (items_view l.items.items) (items_view l.items.items) ≡ are_apart l.name (items_view l.items.items) (items_view (drop l.item-index l.item-items))
