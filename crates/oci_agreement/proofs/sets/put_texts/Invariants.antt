use Rattle.std.proofs.Common.{◌≡◌, ◌||◌, ℕ, List, drop}
use Rattle.std.specs.BTreeSet.{contains_text}
use Rattle.serde_json.specs.View.{items_view}
use Rattle.oci_rules.specs.Listed.{has_text}
use Rattle.oci_agreement.proofs.sets.put_texts.Given as goal

-- those that were put, and those that are still to be put
abbrev pub invariant-loop-item : goal.invariant-loop-item
invariant-loop-item l =
    (q : List ℕ) → (contains_text l.texts q || has_text (items_view (drop l.item-index l.items.items)) q) ≡ (contains_text l.initial.texts q || has_text (items_view l.items.items) q)
