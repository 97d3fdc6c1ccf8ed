use Rattle.std.proofs.Common.{◌≡◌, ◌≤◌, ◌+◌, ◌-◌, ℕ, length, get_or}
use Rattle.serde_json.specs.View.{items_view}
use Rattle.oci_diff.specs.Best.{best}
use Rattle.oci_diff.proofs.aligned.next_row.Given as goal

abbrev pub invariant-loop-left : goal.invariant-loop-left
invariant-loop-left l = record {
  scores : length l.next.items ≡ l.left + 1;
  each : (c : ℕ) → c ≤ l.left → get_or l.next.items c 0 ≡ best (items_view l.items.items) (items_view l.others.items) (length l.items.items) (length l.others.items) (length l.items.items - l.index) c;
  last : l.best ≡ best (items_view l.items.items) (items_view l.others.items) (length l.items.items) (length l.others.items) (length l.items.items - l.index) l.left;
}
