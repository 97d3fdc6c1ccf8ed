use Rattle.serde_json.specs.View.{view}
use Rattle.oci_schema.specs.Shapes.{schema_shape}
use Rattle.oci_schema.proofs.Documents.{valid_bytes}
use Rattle.oci_schema.proofs.bytes.calls.violations_by_value.Goals as goal

pub returns-clause-all : goal.returns-clause-all
returns-clause-all g c = (view c.in_ok-value.value, c.in_ok-value.ensures.ok, c.in_ok-found.ensures.all)

pub returns-clause-none : goal.returns-clause-none
returns-clause-none g c =
    valid_bytes (schema_shape (g.T.Records.shape_at c.args.records.now) c.args.schema.now) c.args.bytes.now (view c.in_ok-value.value) _ c.in_ok-value.ensures.ok c.in_ok-found.ensures.none
