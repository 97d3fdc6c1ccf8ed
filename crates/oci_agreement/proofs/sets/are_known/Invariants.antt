use Rattle.std.proofs.Common.{◌≡◌, drop}
use Rattle.std.specs.BTreeSet.{contains_text}
use Rattle.serde_json.specs.Find.{as_str}
use Rattle.serde_json.specs.View.{items_view}
use Rattle.oci_rules.specs.Decided.{all_items, if_any}
use Rattle.oci_agreement.proofs.sets.are_known.Given as goal

abbrev pub invariant-loop-item : goal.invariant-loop-item
invariant-loop-item l =
    all_items (λ d. if_any (contains_text l.known) (as_str d)) (items_view l.items.items) ≡ all_items (λ d. if_any (contains_text l.known) (as_str d)) (items_view (drop l.item-index l.item-items))
