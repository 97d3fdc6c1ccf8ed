-- What was counted, and what is still to be counted, is all.
use Rattle.std.proofs.Common.{◌≡◌, ◌+◌, ◌≤◌, drop, codes}
use Rattle.serde_json.specs.View.{items_view}
use Rattle.oci_rules.specs.Parts.{without}
use Rattle.oci_agreement.proofs.layers.count_filled.Given as goal

abbrev pub invariant-loop-entry : goal.invariant-loop-entry
invariant-loop-entry l = record {
  counted : l.count + without (codes "empty_layer") (items_view (drop l.entry-index l.entry-items)) ≡ without (codes "empty_layer") (items_view l.history.items);
  few : l.count ≤ l.entry-index;
}
