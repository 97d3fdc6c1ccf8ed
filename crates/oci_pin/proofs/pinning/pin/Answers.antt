-- What is answered is the pinned reference, so the law on a replaced digest is said of it.
use Rattle.std.proofs.Common.{◌≡◌, rules}
use Rattle.std.proofs.lemmas.Result.{IfOk-weaker}
use Rattle.oci_base.specs.Digest.{IsDigestText}
use Rattle.oci_reference.specs.Replaced.{pinned}
use Rattle.oci_pin.proofs.Pinned.{read_again, read_alone}
use Rattle.oci_pin.proofs.pinning.pin.Goals as goal

pub returns-clause-accepted : goal.returns-clause-accepted
returns-clause-accepted c =
    let r = c.args.reference.now in
    let d = c.args.descriptor.now.digest in
    let text : IsDigestText d = search rules in
    IfOk-weaker c.clone_with_digest.result (λ p. p ≡ pinned r d) _ (read_again r d text) (search rules)

pub returns-clause-alone : goal.returns-clause-alone
returns-clause-alone c =
    let r = c.args.reference.now in
    let d = c.args.descriptor.now.digest in
    IfOk-weaker c.clone_with_digest.result (λ p. p ≡ pinned r d) _ (read_alone r d) (search rules)
