use Rattle.std.proofs.Common.{◌≡◌, length}
use Rattle.serde_json.specs.View.{items_view}
use Rattle.oci_diff.specs.Best.{IsRow, HasRows}
use Rattle.oci_diff.proofs.aligned.rows_of.Given as goal

abbrev pub invariant-loop-left : goal.invariant-loop-left
invariant-loop-left l = record {
  many : length l.rows.items ≡ l.left;
  below : HasRows (items_view l.items.items) (items_view l.others.items) (length l.items.items) (length l.others.items) l.left l.rows.items;
  last : IsRow (items_view l.items.items) (items_view l.others.items) (length l.items.items) (length l.others.items) l.left l.row.items;
}
