use Rattle.serde_json.specs.View.{view}
use Rattle.oci_schema.specs.Shapes.{schema_shape}
use Rattle.oci_schema.proofs.Accepted.{sound, answers_all, refuses_all}
use Rattle.oci_schema.proofs.by_value.value.normalize_value.Goals as goal

pub normal_value-requires : goal.normal_value-requires
normal_value-requires g c = sound (schema_shape (g.T.Records.shape_at c.args.records.now) c.args.schema.now) c.requires

pub returns-clause-ok : goal.returns-clause-ok
returns-clause-ok g c = answers_all c.normal_value.result (schema_shape (g.T.Records.shape_at c.args.records.now) c.args.schema.now) (view c.args.value) c.requires c.normal_value.ensures.ok

pub returns-clause-err : goal.returns-clause-err
returns-clause-err g c = refuses_all c.normal_value.result (schema_shape (g.T.Records.shape_at c.args.records.now) c.args.schema.now) (view c.args.value) c.normal_value.ensures.err

pub returns-clause-kind : goal.returns-clause-kind
returns-clause-kind g c = c.normal_value.ensures.kind
