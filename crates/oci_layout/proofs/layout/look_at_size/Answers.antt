use Rattle.oci_layout.proofs.Looks.{size_shorter}
use Rattle.oci_layout.proofs.layout.look_at_size.Goals as goal

pub returns-then-found-claim : goal.returns-then-found-claim
returns-then-found-claim c = size_shorter c.args.claim.now c.args.size c.in_ok-found.found _ _ c.in_ok-found.was c.if-found-claim.true c.of_fault.ensures
