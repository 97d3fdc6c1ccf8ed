use Rattle.oci_findings.proofs.Forms.{pretty_found}
use Rattle.oci_findings.proofs.quick.pretty_form.Goals as goal

pub returns : goal.returns
returns c = pretty_found _ c.args.kind c.args.bytes.now c.args.tape.now c.in-Ok.text c.schema.ensures.well c.schema.ensures.shape c.in-Ok.ensures
