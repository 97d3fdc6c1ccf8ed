use Rattle.std.proofs.Common.{◌≡◌, drop}
use Rattle.serde_json.specs.View.{items_view}
use Rattle.oci_rules.specs.Decided.{is_one_of, some_item}
use Rattle.oci_rules.specs.Tables.{texts_of}
use Rattle.oci_rules.proofs.conditions.has_text.Given as goal

abbrev pub invariant-loop-item : goal.invariant-loop-item
invariant-loop-item l = some_item (is_one_of (texts_of l.texts)) (items_view l.items.items) ≡ some_item (is_one_of (texts_of l.texts)) (items_view (drop l.item-index l.item-items))
