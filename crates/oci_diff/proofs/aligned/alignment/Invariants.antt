use Rattle.std.proofs.Common.{◌≤◌, ◌+◌, ◌-◌, length}
use Rattle.std.specs.List.{All}
use Rattle.serde_json.specs.View.{items_view}
use Rattle.oci_diff.specs.Aligned.{Lead, IsWithin}
use Rattle.oci_diff.proofs.Bests.{value}
use Rattle.oci_diff.specs.Best.{best}
use Rattle.oci_diff.specs.declared.aligned.TheConstants.{SHORT}
use Rattle.oci_diff.proofs.aligned.alignment.Given as goal

abbrev pub invariant-loop-i : goal.invariant-loop-i
invariant-loop-i l = record {
  first : l.i ≤ length l.items.items;
  second : l.j ≤ length l.others.items;
  lead : Lead (items_view l.items.items) (items_view l.others.items) 0 0 l.steps.items l.i l.j;
  reached : length l.items.items ≤ SHORT → length l.others.items ≤ SHORT
      → best (items_view l.items.items) (items_view l.others.items) (length l.items.items) (length l.others.items) (length l.items.items - 0) (length l.others.items - 0)
      ≤ value 0 0 l.steps.items + best (items_view l.items.items) (items_view l.others.items) (length l.items.items) (length l.others.items) (length l.items.items - l.i) (length l.others.items - l.j);
  within : All (IsWithin (length l.items.items) (length l.others.items)) l.steps.items;
}

abbrev pub decreases-loop-i : goal.decreases-loop-i
decreases-loop-i l = (length l.items.items - l.i) + (length l.others.items - l.j)
