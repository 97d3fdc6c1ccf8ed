use Rattle.std.proofs.Common.{◌≡◌, drop}
use Rattle.serde_json.specs.View.{items_view}
use Rattle.oci_rules.specs.Decided.{has_text_under, some_item}
use Rattle.oci_rules.proofs.passes.has_text_under.Given as goal

abbrev pub invariant-loop-item : goal.invariant-loop-item
invariant-loop-item l = some_item (has_text_under l.name l.text) (items_view l.items.items) ≡ some_item (has_text_under l.name l.text) (items_view (drop l.item-index l.item-items))
