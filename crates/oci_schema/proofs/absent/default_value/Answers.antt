use Rattle.std.proofs.Common.{ap, ◌∙◌}
use Rattle.serde_json.specs.Data.{array}
use Rattle.serde_json.specs.View.{items_view}
use Rattle.serde_json.proofs.Views.{view-Array}
use Rattle.oci_schema.specs.Shapes.{default_plain, schema_shape}
use Rattle.oci_schema.proofs.DefaultValues.{variant_default, boolean_default, empty_default}
use Rattle.oci_schema.proofs.absent.default_value.Goals as goal

pub returns-in-Variant-clause-ok : goal.returns-in-Variant-clause-ok
returns-in-Variant-clause-ok g c =
    variant_default c.string_value.result (schema_shape (g.T.Records.shape_at c.args.records.now) c.args.schema.now) c.in-Variant.text.now _ (ap default_plain c.in-Variant.is) c.requires.fits c.string_value.ensures.ok

pub returns-in-Boolean-clause-ok : goal.returns-in-Boolean-clause-ok
returns-in-Boolean-clause-ok g c = boolean_default (schema_shape (g.T.Records.shape_at c.args.records.now) c.args.schema.now) c.in-Boolean.boolean _ (ap default_plain c.in-Boolean.is) c.requires.fits

pub returns-in-EmptyArray-clause-ok : goal.returns-in-EmptyArray-clause-ok
returns-in-EmptyArray-clause-ok g c =
    let v = c.new.result in
    empty_default (schema_shape (g.T.Records.shape_at c.args.records.now) c.args.schema.now) _ _ (ap default_plain c.in-EmptyArray.is) c.requires.fits (view-Array v ∙ ap (λ vs. array (items_view vs)) c.new.ensures.items)
