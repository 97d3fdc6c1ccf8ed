use Rattle.std.proofs.Common.{◌≡◌, drop}
use Rattle.serde_json.specs.View.{view, items_view}
use Rattle.oci_rules.specs.Decided.{all_items, is_apart}
use Rattle.oci_rules.proofs.apart.is_apart_from_all.Given as goal

abbrev pub invariant-loop-other : goal.invariant-loop-other
invariant-loop-other l = all_items (is_apart l.name (view l.item)) (items_view l.items.items) ≡ all_items (is_apart l.name (view l.item)) (items_view (drop l.other-index l.other-items))
