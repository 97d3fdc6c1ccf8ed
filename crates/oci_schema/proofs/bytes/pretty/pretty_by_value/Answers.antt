use Rattle.std.proofs.Common.{ap, subst, sym}
use Rattle.serde_json.specs.View.{view}
use Rattle.oci_json.specs.Engines.{IsPretty}
use Rattle.oci_json.proofs.Texts.{is_pretty}
use Rattle.oci_model.specs.Value.{value}
use Rattle.oci_schema.specs.Shapes.{schema_shape}
use Rattle.oci_schema.proofs.bytes.pretty.pretty_by_value.Goals as goal

pub returns-clause-makes : goal.returns-clause-makes
returns-clause-makes g c =
    let s = schema_shape (g.T.Records.shape_at c.args.records.now) c.args.schema.now in
    let made = c.in_ok-normal.ensures.ok in
    let text = c.in_ok-text.ensures in
    let pretty = is_pretty (value s made.0) (view c.in_ok-normal.normal) _ made.3 text.layout text.order text.reads_back in
    record {
      ok = (made.0, made.1, subst (IsPretty (value s made.0)) (sym (ap (λ v. v.items) c.into_bytes.ensures.value)) pretty);
      json = tt;
      schema = tt;
    }
