use Rattle.oci_model.specs.Plain as plain
use Rattle.oci_model.specs.Types.{text_plain}
use Rattle.std.proofs.Common.{ap}
use Rattle.oci_linux.proofs.Lists.{plains_next}
use Rattle.oci_linux.proofs.texts.texts_of.Goals as goal

pub loop-text-preserved : goal.loop-text-preserved
loop-text-preserved c =
    let next = plains_next text_plain (λ t. plain.text t.now) c.loop-text.listed.items c.args.texts.now c.loop-text.text-index _ _ c.loop-text-test.true c.loop-text.invariant (ap plain.text c.in_ok-from_str.ensures.ok) in
    rw c.in_ok-push.ensures.items next
