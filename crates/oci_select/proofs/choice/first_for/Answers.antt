use Rattle.std.proofs.Common.{below_more}
use Rattle.oci_select.specs.Told.{told}
use Rattle.oci_select.proofs.Places.{differs_at, none_at}
use Rattle.oci_select.proofs.choice.first_for.Goals as goal

pub loop-i-preserved : goal.loop-i-preserved
loop-i-preserved c = below_more _ _ c.loop-i.invariant
    (differs_at c.args.manifests.now c.args.wanted.now (told c.args.names.now) c.loop-i.i c.index-manifests-i.result c.loop-i-test.true c.index-manifests-i.is (λ h. cc (c.is_for.ensures.1 h, c.if-is_for.false)))

pub returns-clause-none : goal.returns-clause-none
returns-clause-none c = λ _. none_at c.args.manifests.now c.args.wanted.now (told c.args.names.now) c.loop-i.i c.loop-i-test.false c.loop-i.invariant
