use Rattle.std.proofs.Common.{◌∙◌, subst, IfOk, IfSome}
use Rattle.oci_content.specs.Content.{Tells}
use Rattle.oci_content.proofs.descriptor.verify_reader.Goals as goal

pub returns-clause-tells : goal.returns-clause-tells
returns-clause-tells g c =
    let bytes = g.R.Read.remaining c.args.reader.now in
    let r = c.verify_reader_bytes.result in
    subst (λ n. IfOk r (λ v. IfSome bytes (λ all. Tells c.args.descriptor.now.digest n all v))) c.size.ensures
    (subst (λ d. IfOk r (λ v. IfSome bytes (λ all. Tells d c.size.result all v))) (c.as_ref.ensures.value ∙ c.digest.ensures) c.verify_reader_bytes.ensures)
