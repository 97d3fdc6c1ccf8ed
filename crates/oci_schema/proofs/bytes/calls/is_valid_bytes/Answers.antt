use Rattle.std.proofs.Common.{refl}
use Rattle.oci_schema.specs.Shapes.{schema_shape}
use Rattle.oci_schema.proofs.Documents.{accepted_document}
use Rattle.oci_schema.proofs.bytes.calls.is_valid_bytes.Goals as goal

pub returns-then-accepted-clause-ok : goal.returns-then-accepted-clause-ok
returns-then-accepted-clause-ok g c =
    let s = schema_shape (g.T.Records.shape_at c.args.records.now) c.args.schema.now in
    let k = c.in_ok-accepted.ensures c.if-accepted.true in
    let m = accepted_document s c.args.bytes.now k.0 c.requires k.1 k.2 in
    ((λ h. (m.0, m.1)), (λ h. refl))
