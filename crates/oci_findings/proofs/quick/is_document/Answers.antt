use Rattle.oci_findings.proofs.Forms.{is_of_kind}
use Rattle.oci_findings.proofs.quick.is_document.Goals as goal

pub returns : goal.returns
returns c = λ yes. is_of_kind _ c.args.kind c.args.bytes.now c.args.tape.now c.schema.ensures.well c.schema.ensures.shape (c.in-Ok.ensures yes)
