use Rattle.std.proofs.Common.{ap, ◌∙◌}
use Rattle.serde_json.specs.View.{view}
use Rattle.serde_json.specs.Written.{compact_text}
use Rattle.oci_json.proofs.Texts.{none_in, read_back}
use Rattle.oci_schema.specs.Shapes.{schema_shape}
use Rattle.oci_schema.proofs.bytes.calls.text_by_value.Goals as goal

pub returns-clause-makes : goal.returns-clause-makes
returns-clause-makes g c =
    let s = schema_shape (g.T.Records.shape_at c.args.records.now) c.args.schema.now in
    let made = c.in_ok-normal.ensures.ok in
    let text = c.in_ok-text.ensures in
    let whole = none_in s made.0 (view c.in_ok-normal.normal) made.3 made.2 in
    record {
      ok = (
        made.0,
        made.1,
        ap (λ v. v.items) c.into_bytes.ensures.value ∙ text.text whole ∙ ap compact_text made.3,
        read_back s made.0 (view c.in_ok-normal.normal) _ made.3 made.2 text.text text.reads_back,
      );
      json = tt;
      schema = tt;
    }
