use Rattle.oci_findings.specs.Contents.{fact, held_fact}
use Rattle.oci_findings.proofs.Facts.{made_more_at}
use Rattle.oci_findings.proofs.contents.add_all_held.Goals as goal

pub loop-held-preserved : goal.loop-held-preserved
loop-held-preserved c =
    made_more_at fact held_fact _ c.loop-held.found.items _ c.deref-held-items.result.now c.loop-held.held-index _ c.loop-held-test.true c.in_ok-add_held.ensures c.loop-held.invariant
