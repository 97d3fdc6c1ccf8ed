-- What was counted, and what is still to be counted, is all.
use Rattle.std.proofs.Common.{◌≡◌, ◌+◌, ◌≤◌, drop}
use Rattle.serde_json.specs.View.{items_view}
use Rattle.oci_rules.specs.Parts.{without}
use Rattle.oci_rules.proofs.passes.count_without.Given as goal

abbrev pub invariant-loop-item : goal.invariant-loop-item
invariant-loop-item l = record { counted : l.count + without l.name (items_view (drop l.item-index l.item-items)) ≡ without l.name (items_view l.items.items); few : l.count ≤ l.item-index }
