use Rattle.std.proofs.Common.{◌≡◌, ◌<◌, ◌+◌, ◌-◌, length, rules, arith, Some, sym, ◌∙◌}
use Rattle.serde_json.specs.Find.{get_item}
use Rattle.serde_json.specs.View.{view, items_view}
use Rattle.oci_diff.proofs.Aligning.{item_at}
use Rattle.oci_diff.proofs.Bests.{alike_as, extra_one, found_at, no_pair, pair_reached, same_reached}
use Rattle.oci_diff.specs.Best.{are_alike, best, extra}
use Rattle.oci_diff.specs.Same.{AreSame}
use Rattle.oci_diff.proofs.aligned.next_step.Goals as goal

pub returns-then-equal_trees-clause-step : goal.returns-then-equal_trees-clause-step
returns-then-equal_trees-clause-step c =
    let first : c.args.i < length c.args.items.now.items = search rules in
    let second : c.args.j < length c.args.others.now.items = search rules in
    let same : AreSame (view c.index.result.now) (view c.index-else-found-score-2.result.now) = c.equal_trees.ensures.0 c.if-equal_trees.true in
    (view c.index.result.now, view c.index-else-found-score-2.result.now, item_at _ _ _ first c.index.ensures, item_at _ _ _ second c.index-else-found-score-2.ensures, same)

pub returns-then-equal_trees-clause-best : goal.returns-then-equal_trees-clause-best
returns-then-equal_trees-clause-best c has =
    let ds = items_view c.args.items.now.items in
    let es = items_view c.args.others.now.items in
    let m = length c.args.items.now.items in
    let n = length c.args.others.now.items in
    let first : c.args.i < m = search rules in
    let second : c.args.j < n = search rules in
    let r : c.len-3.result ≡ m = c.len-3.ensures ∙ c.args.items.now.ok.0 in
    let w : c.len-4.result ≡ n = c.len-4.ensures ∙ c.args.others.now.ok.0 in
    let found = found_at ds es m n c.args.rows.now.items c.score-found.result _ _ (m - c.args.i) (n - c.args.j) c.score-found.ensures has (omega arith) (omega arith) (omega arith) (omega arith) in
    let less = found_at ds es m n c.args.rows.now.items c.score.result _ _ (m - (c.args.i + 1)) (n - c.args.j) c.score.ensures has (omega arith) (omega arith) (omega arith) (omega arith) in
    let fewer = found_at ds es m n c.args.rows.now.items c.score-else-found-score.result _ _ (m - c.args.i) (n - (c.args.j + 1)) c.score-else-found-score.ensures has (omega arith) (omega arith) (omega arith) (omega arith) in
    let not_less = (λ (e : best ds es m n (m - c.args.i) (n - c.args.j) ≡ best ds es m n (m - (c.args.i + 1)) (n - c.args.j)). c.if-found-score.false (found ∙ e ∙ sym less)) in
    let not_fewer = (λ (e : best ds es m n (m - c.args.i) (n - c.args.j) ≡ best ds es m n (m - c.args.i) (n - (c.args.j + 1))). c.if-found-score-2.false (found ∙ e ∙ sym fewer)) in
    let one : get_item c.args.i ds ≡ Some (view c.index.result.now) = item_at _ _ _ first c.index.ensures in
    let other : get_item c.args.j es ≡ Some (view c.index-else-found-score-2.result.now) = item_at _ _ _ second c.index-else-found-score-2.ensures in
    same_reached ds es m n c.args.i c.args.j first second (view c.index.result.now, view c.index-else-found-score-2.result.now, one, other, c.equal_trees.ensures.0 c.if-equal_trees.true) not_less not_fewer

pub returns-then-i-j-2-clause-best : goal.returns-then-i-j-2-clause-best
returns-then-i-j-2-clause-best c has =
    let ds = items_view c.args.items.now.items in
    let es = items_view c.args.others.now.items in
    let m = length c.args.items.now.items in
    let n = length c.args.others.now.items in
    let first : c.args.i < m = search rules in
    let second : c.args.j < n = search rules in
    let r : c.len-3.result ≡ m = c.len-3.ensures ∙ c.args.items.now.ok.0 in
    let w : c.len-4.result ≡ n = c.len-4.ensures ∙ c.args.others.now.ok.0 in
    let found = found_at ds es m n c.args.rows.now.items c.score-found.result _ _ (m - c.args.i) (n - c.args.j) c.score-found.ensures has (omega arith) (omega arith) (omega arith) (omega arith) in
    let less = found_at ds es m n c.args.rows.now.items c.score.result _ _ (m - (c.args.i + 1)) (n - c.args.j) c.score.ensures has (omega arith) (omega arith) (omega arith) (omega arith) in
    let fewer = found_at ds es m n c.args.rows.now.items c.score-else-found-score.result _ _ (m - c.args.i) (n - (c.args.j + 1)) c.score-else-found-score.ensures has (omega arith) (omega arith) (omega arith) (omega arith) in
    let not_less = (λ (e : best ds es m n (m - c.args.i) (n - c.args.j) ≡ best ds es m n (m - (c.args.i + 1)) (n - c.args.j)). c.if-found-score.false (found ∙ e ∙ sym less)) in
    let not_fewer = (λ (e : best ds es m n (m - c.args.i) (n - c.args.j) ≡ best ds es m n (m - c.args.i) (n - (c.args.j + 1))). c.if-found-score-2.false (found ∙ e ∙ sym fewer)) in
    let one : get_item c.args.i ds ≡ Some (view c.index.result.now) = item_at _ _ _ first c.index.ensures in
    let other : get_item c.args.j es ≡ Some (view c.index-else-found-score-2.result.now) = item_at _ _ _ second c.index-else-found-score-2.ensures in
    let alike : are_alike (get_item c.args.i ds) (get_item c.args.j es) ≡ c.equal_trees.result = alike_as ds es m n c.args.i c.args.j _ _ c.equal_trees.result one other c.equal_trees.ensures in
    let reached = pair_reached ds es m n c.args.i c.args.j first second (alike ∙ c.if-equal_trees.false) not_less not_fewer in
    let single : extra c.args.i c.args.j ≡ 1 = extra_one _ _ c.if-i-j-2.true in
    omega (arith, reached, single)

pub returns-else-i-j-2-clause-best : goal.returns-else-i-j-2-clause-best
returns-else-i-j-2-clause-best c has =
    let ds = items_view c.args.items.now.items in
    let es = items_view c.args.others.now.items in
    let m = length c.args.items.now.items in
    let n = length c.args.others.now.items in
    let first : c.args.i < m = search rules in
    let second : c.args.j < n = search rules in
    let r : c.len-3.result ≡ m = c.len-3.ensures ∙ c.args.items.now.ok.0 in
    let w : c.len-4.result ≡ n = c.len-4.ensures ∙ c.args.others.now.ok.0 in
    let found = found_at ds es m n c.args.rows.now.items c.score-found.result _ _ (m - c.args.i) (n - c.args.j) c.score-found.ensures has (omega arith) (omega arith) (omega arith) (omega arith) in
    let less = found_at ds es m n c.args.rows.now.items c.score.result _ _ (m - (c.args.i + 1)) (n - c.args.j) c.score.ensures has (omega arith) (omega arith) (omega arith) (omega arith) in
    let fewer = found_at ds es m n c.args.rows.now.items c.score-else-found-score.result _ _ (m - c.args.i) (n - (c.args.j + 1)) c.score-else-found-score.ensures has (omega arith) (omega arith) (omega arith) (omega arith) in
    let not_less = (λ (e : best ds es m n (m - c.args.i) (n - c.args.j) ≡ best ds es m n (m - (c.args.i + 1)) (n - c.args.j)). c.if-found-score.false (found ∙ e ∙ sym less)) in
    let not_fewer = (λ (e : best ds es m n (m - c.args.i) (n - c.args.j) ≡ best ds es m n (m - c.args.i) (n - (c.args.j + 1))). c.if-found-score-2.false (found ∙ e ∙ sym fewer)) in
    let one : get_item c.args.i ds ≡ Some (view c.index.result.now) = item_at _ _ _ first c.index.ensures in
    let other : get_item c.args.j es ≡ Some (view c.index-else-found-score-2.result.now) = item_at _ _ _ second c.index-else-found-score-2.ensures in
    let alike : are_alike (get_item c.args.i ds) (get_item c.args.j es) ≡ c.equal_trees.result = alike_as ds es m n c.args.i c.args.j _ _ c.equal_trees.result one other c.equal_trees.ensures in
    absurd (no_pair ds es m n c.args.i c.args.j first second (alike ∙ c.if-equal_trees.false) c.if-i-j-2.false not_less not_fewer)
