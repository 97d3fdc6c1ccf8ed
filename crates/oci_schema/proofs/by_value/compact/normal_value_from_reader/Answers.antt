use Rattle.std.proofs.lemmas.Result.{IfErr-weaker}
use Rattle.serde_json.specs.View.{view}
use Rattle.oci_schema.specs.Shapes.{schema_shape}
use Rattle.oci_schema.proofs.Means.{normal_of, not_normalized}
use Rattle.oci_schema.proofs.by_value.compact.normal_value_from_reader.Goals as goal

pub returns-clause-ok : goal.returns-clause-ok
returns-clause-ok g c =
    normal_of (schema_shape (g.T.Records.shape_at c.args.records.now) c.args.schema.now) (g.R.Read.remaining c.args.reader) (view c.in_ok-value.value) c.normalize_value.result c.in_ok-value.ensures.ok c.normalize_value.ensures.ok

pub returns-clause-schema : goal.returns-clause-schema
returns-clause-schema g c =
    IfErr-weaker c.normalize_value.result _ _
    (λ e told is_schema. not_normalized (schema_shape (g.T.Records.shape_at c.args.records.now) c.args.schema.now) (g.R.Read.remaining c.args.reader) (view c.in_ok-value.value) c.in_ok-value.ensures.ok (told is_schema))
    c.normalize_value.ensures.err
