use Rattle.std.proofs.Common.{◌≡◌, ◌<◌, ◌+◌, ◌-◌, length, subst, ◌∙◌, arith, rules}
use Rattle.serde_json.specs.View.{items_view}
use Rattle.oci_diff.specs.Best.{HasRows, IsRow}
use Rattle.oci_diff.proofs.Bests.{more_rows}
use Rattle.oci_diff.proofs.aligned.rows_of.Goals as goal

pub next_row-requires : goal.next_row-requires
next_row-requires c =
    let m = length c.args.items.now.items in
    let n = length c.args.others.now.items in
    let k = c.loop-left.left in
    let long : c.len-in-loop-left.result ≡ m = c.len-in-loop-left.ensures ∙ c.args.items.now.ok.0 in
    let lt : k < m = search rules in
    let same : k ≡ m - ((c.len-in-loop-left.result - 1 - k) + 1) = omega arith in
    record {
      below = omega arith;
      short = search rules;
      row = subst (λ r. IsRow (items_view c.args.items.now.items) (items_view c.args.others.now.items) m n r c.loop-left.row.items) same c.loop-left.invariant.last;
    }

pub loop-left-preserved : goal.loop-left-preserved
loop-left-preserved c =
    let m = length c.args.items.now.items in
    let n = length c.args.others.now.items in
    let k = c.loop-left.left in
    let long : c.len-in-loop-left.result ≡ m = c.len-in-loop-left.ensures ∙ c.args.items.now.ok.0 in
    let lt : k < m = search rules in
    let same : m - (c.len-in-loop-left.result - 1 - k) ≡ k + 1 = omega arith in
    record {
      many = search rules;
      below =
          more_rows (items_view c.args.items.now.items) (items_view c.args.others.now.items) m n k c.loop-left.rows.items c.push.new.self.items c.loop-left.row c.in_ok-push.ensures.items
          c.loop-left.invariant.many c.loop-left.invariant.below c.loop-left.invariant.last;
      last = subst (λ r. IsRow (items_view c.args.items.now.items) (items_view c.args.others.now.items) m n r c.in_ok-next.next.items) same c.in_ok-next.ensures;
    }

pub returns : goal.returns
returns c = λ few fewer.
    let m = length c.args.items.now.items in
    let n = length c.args.others.now.items in
    let k = c.loop-left.left in
    let long : c.len-left-end.result ≡ m = c.len-left-end.ensures ∙ c.args.items.now.ok.0 in
    let done : k ≡ m = omega arith in
    subst (λ r. HasRows (items_view c.args.items.now.items) (items_view c.args.others.now.items) m n (r + 1) c.push-2.new.self.items) done
    (more_rows (items_view c.args.items.now.items) (items_view c.args.others.now.items) m n k c.loop-left.rows.items c.push-2.new.self.items c.loop-left.row
    c.in_ok-push-2.ensures.items c.loop-left.invariant.many c.loop-left.invariant.below c.loop-left.invariant.last)
