use Rattle.std.proofs.Common.{◌≡◌, drop}
use Rattle.serde_json.specs.View.{items_view}
use Rattle.oci_rules.specs.Decided.{is_item, some_item}
use Rattle.oci_rules.specs.Tables.{texts_of}
use Rattle.oci_rules.proofs.conditions.has_item.Given as goal

abbrev pub invariant-loop-item : goal.invariant-loop-item
invariant-loop-item l =
    some_item (is_item l.name (texts_of l.texts) (texts_of l.with) (texts_of l.without)) (items_view l.items.items)
    ≡ some_item (is_item l.name (texts_of l.texts) (texts_of l.with) (texts_of l.without)) (items_view (drop l.item-index l.item-items))
