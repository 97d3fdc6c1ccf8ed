use Rattle.std.proofs.Common.{subst, sym}
use Rattle.oci_layout.specs.Walk.{IsUnderway}
use Rattle.oci_layout.proofs.Walks.{begun, all_looked_at}
use Rattle.oci_verify.proofs.program.Verification.look_at_all.Goals as goal

pub looks-init : goal.looks-init
looks-init g c =
    let begin = c.in_ok-walk.ensures in
    begun (g.S.Shown.shows c.args.shown.now) c.args.first.items _ _ begin.within begin.only begin.none

pub looks-preserved : goal.looks-preserved
looks-preserved g c =
    let shows = g.S.Shown.shows c.args.shown.now in
    let first = c.args.first.items in
    let dropped = c.drop_text.ensures in
    subst (λ v. IsUnderway shows first c.drop_text.new.self.claims.items v.items) (sym dropped.faults)
    (subst (λ v. IsUnderway shows first v.items c.step.new.self.faults.items) (sym dropped.claims) (c.in_ok-step.ensures.underway first c.looks.invariant))

pub returns : goal.returns
returns g c = all_looked_at _ _ _ _ (c.in_ok-step.ensures.all c.if-branch.false) (c.in_ok-step.ensures.underway c.args.first.items c.looks.invariant)
