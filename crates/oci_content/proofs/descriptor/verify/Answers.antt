use Rattle.std.proofs.Common.{◌∙◌, subst}
use Rattle.oci_content.specs.Content.{Tells}
use Rattle.oci_content.proofs.descriptor.verify.Goals as goal

pub returns-clause-tells : goal.returns-clause-tells
returns-clause-tells c =
    let bytes = c.args.bytes.now in
    let v = c.verify_bytes.result in
    subst (λ n. Tells c.args.descriptor.now.digest n bytes v) c.size.ensures
    (subst (λ d. Tells d c.size.result bytes v) (c.as_ref.ensures.value ∙ c.digest.ensures) c.verify_bytes.ensures)
