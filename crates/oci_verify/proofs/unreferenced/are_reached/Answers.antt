use Rattle.std.proofs.Common.{below_more, arith, sym, ◌∙◌, true≢false, refl}
use Rattle.std.specs.BTreeSet.{contains_text}
use Rattle.oci_verify.proofs.Layouts.{IsReachedAt, reached_at, reached_here}
use Rattle.oci_verify.proofs.unreferenced.are_reached.Goals as goal

pub each-preserved : goal.each-preserved
each-preserved c =
    below_more (IsReachedAt c.args.listed.now (contains_text c.args.reached.now)) c.each.place c.each.invariant
    (reached_at c.args.listed.now (contains_text c.args.reached.now) c.each.place c.index-listed-place.result (omega arith) c.index-listed-place.is
    (sym c.is_reached.ensures ∙ c.if-not-is_reached.false))

pub returns-then-not-is_reached : goal.returns-then-not-is_reached
returns-then-not-is_reached c = (
  λ is. absurd (true≢false (sym is)),
  λ all. absurd (true≢false (sym (reached_here c.args.listed.now (contains_text c.args.reached.now) c.each.place c.index-listed-place.result (omega arith) c.index-listed-place.is all)
      ∙ sym c.is_reached.ensures ∙ c.if-not-is_reached.true)),
)

pub returns : goal.returns
returns c = (λ sure k d below. c.each.invariant k (omega arith) d, λ all. refl)
