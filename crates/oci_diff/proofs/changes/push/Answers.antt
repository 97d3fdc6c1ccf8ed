use Rattle.std.proofs.Common.{ap}
use Rattle.oci_diff.specs.Tells.{said}
use Rattle.oci_diff.proofs.Telling.{told_one}
use Rattle.oci_diff.proofs.changes.push.Goals as goal

pub returns-clause-told : goal.returns-clause-told
returns-clause-told c =
    told_one _ _ (record { pointer = c.in_ok-pointer.pointer; change = c.args.change }) _ c.in_ok-push.ensures.items (ap (λ t. (t, said c.args.change)) c.in_ok-pointer.ensures.ok)
