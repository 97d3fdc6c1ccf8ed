use Rattle.serde_json.specs.View.{view}
use Rattle.oci_schema.specs.Shapes.{schema_shape}
use Rattle.oci_schema.proofs.Documents.{valid_bytes}
use Rattle.oci_schema.proofs.bytes.calls.is_valid_by_value.Goals as goal

pub returns-clause-ok : goal.returns-clause-ok
returns-clause-ok g c =
    valid_bytes (schema_shape (g.T.Records.shape_at c.args.records.now) c.args.schema.now) c.args.bytes.now (view c.in_ok-value.value) _ c.in_ok-value.ensures.ok c.is_valid.ensures
