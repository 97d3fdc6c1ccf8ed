use Rattle.oci_findings.proofs.Marks.{marked_step, marked_end}
use Rattle.oci_findings.proofs.wording.push_marked_names.Goals as goal

pub loop-name-preserved : goal.loop-name-preserved
loop-name-preserved c =
    marked_step (λ name. name.now) _ _ _ _ _ c.args.names.now c.loop-name.name-index _ c.loop-name-test.true c.mark_of-mark.ensures c.in_ok-push_marked.ensures c.loop-name.invariant

pub returns : goal.returns
returns c = marked_end (λ name. name.now) _ _ _ c.args.names.now c.loop-name.name-index c.loop-name-test.false c.loop-name.invariant
