use Rattle.std.proofs.Common.{[], ◌∙◌}
use Rattle.oci_schema.specs.Shapes.{schema_shape}
use Rattle.oci_schema.specs.Normalized.{normalized}
use Rattle.oci_schema.proofs.bytes.tape.pretty_text_of.Goals as goal

pub returns : goal.returns
returns g c =
    let s = schema_shape (g.T.Records.shape_at c.args.records.now) c.args.schema.now in
    let all = (c.in_ok-done.ensures c.if-not-done.false).each [] c.new-out.ensures in λ d begins.
    let w = all.2 d begins in
    (w.0, λ none. c.into_bytes.ensures.text (normalized s d) (all.1 ∙ w.1.0) w.1.1 none)
