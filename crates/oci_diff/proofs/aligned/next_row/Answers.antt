use Rattle.std.proofs.Common.{◌≡◌, ◌≤◌, ◌<◌, ◌+◌, ◌-◌, ◌*◌, max, length, length-append, [], ◌∷◌, arith, rules, sym, ap, ◌∙◌}
use Rattle.serde_json.specs.View.{items_view}
use Rattle.oci_diff.proofs.Bests.{best_most, more_scores, row_on}
use Rattle.oci_diff.specs.Best.{best, gain_of}
use Rattle.oci_diff.proofs.aligned.next_row.Goals as goal

pub overflow_add-at : goal.overflow_add-at
overflow_add-at c =
    let m = length c.args.items.now.items in
    let n = length c.args.others.now.items in
    let k = c.loop-left.left in
    let lt : k < n = search rules in
    let is : c.at-in-loop-left.result ≡ best (items_view c.args.items.now.items) (items_view c.args.others.now.items) m n (m - (c.args.index + 1)) k = c.at-in-loop-left.ensures ∙ c.requires.row k (omega arith) in
    let few : c.at-in-loop-left.result ≤ 66 * k = omega (arith, is, best_most (items_view c.args.items.now.items) (items_view c.args.others.now.items) m n (m - (c.args.index + 1)) k) in
    let most : c.gain-worth.result ≤ 66 = c.gain-worth.ensures.most in
    let short : n ≤ 64 = c.requires.short in
    let small : c.at-in-loop-left.result + c.gain-worth.result ≤ 10000 = omega arith in
    search rules

pub loop-left-preserved : goal.loop-left-preserved
loop-left-preserved c =
    let ds = items_view c.args.items.now.items in
    let es = items_view c.args.others.now.items in
    let m = length c.args.items.now.items in
    let n = length c.args.others.now.items in
    let k = c.loop-left.left in
    let lt : k < n = search rules in
    let place : c.len.result - 1 - k ≡ n - 1 - k = ap (λ x. x - 1 - k) (c.len.ensures ∙ c.args.others.now.ok.0) in
    let above : c.at.result ≡ best ds es m n (m - (c.args.index + 1)) (k + 1) = c.at.ensures ∙ c.requires.row (k + 1) (omega arith) in
    let aside : c.at-in-loop-left.result ≡ best ds es m n (m - (c.args.index + 1)) k = c.at-in-loop-left.ensures ∙ c.requires.row k (omega arith) in
    let worth : c.gain-worth.result ≡ gain_of ds es c.args.index (n - 1 - k) = c.gain-worth.ensures.gain ∙ ap (gain_of ds es c.args.index) place in
    let alone : c.max.result ≡ max (best ds es m n (m - c.args.index) k) (best ds es m n (m - (c.args.index + 1)) (k + 1)) = c.max.ensures ∙ (rw (c.loop-left.invariant.last, above)) in
    let last : c.max-best.result ≡ best ds es m n (m - c.args.index) (k + 1) =
    c.max-best.ensures ∙ (rw (alone, aside, worth)) ∙ sym (row_on ds es m n c.args.index k c.requires.below lt) in
    rw c.in_ok-push-2.ensures.items
    (record {
      scores = rw (length-append c.loop-left.next.items (c.max-best.result ∷ []), c.loop-left.invariant.scores);
      each = more_scores (best ds es m n (m - c.args.index)) c.loop-left.next.items k c.max-best.result c.loop-left.invariant.scores c.loop-left.invariant.each last;
      last = last;
    })
