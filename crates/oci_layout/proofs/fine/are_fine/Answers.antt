use Rattle.std.proofs.Common.{◌<◌, ◌≤◌, subst, below_more, refl}
use Rattle.oci_layout.proofs.Findings.{IsFineAt, fine_at, all_fine}
use Rattle.oci_layout.proofs.fine.are_fine.Goals as goal

pub each-preserved : goal.each-preserved
each-preserved c =
    below_more (IsFineAt c.args.claims.now c.args.faults.now) c.each.place c.each.invariant
    (fine_at c.args.claims.now c.args.faults.now c.each.place c.index-claims-place.result _
    (subst (λ n. c.each.place < n) c.min-place-end.ensures c.each-test.true) c.index-claims-place.is (c.is_fine.ensures.0 c.if-not-is_fine.false))

pub returns : goal.returns
returns c = (λ sure. all_fine c.args.claims.now c.args.faults.now c.each.place (subst (λ n. n ≤ c.each.place) c.min-place-end.ensures c.each-test.false) c.each.invariant, λ fine. refl)
