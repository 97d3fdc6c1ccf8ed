use Rattle.std.proofs.Common.{[], ◌∙◌}
use Rattle.oci_schema.specs.Shapes.{schema_shape}
use Rattle.oci_schema.specs.Normalized.{normalized}
use Rattle.oci_schema.proofs.bytes.lane.normal_text.Goals as goal

pub returns : goal.returns
returns g c =
    let s = schema_shape (g.T.Records.shape_at c.args.records.now) c.args.schema.now in
    let all = (c.in_ok-done.ensures c.if-not-done.false).each [] c.in_ok-out.ensures in
    let w = all.2 in
    (w.0, w.1, (w.2, c.into_bytes.ensures.text (normalized s w.0) (all.1 ∙ w.3.0), w.3.1))
