use Rattle.std.proofs.Common.{[], ◌++◌, map, ap, ◌∙◌}
use Rattle.serde_json.specs.View.{view}
use Rattle.oci_schema.specs.Shapes.{schema_shape}
use Rattle.oci_schema.specs.Reported.{reported}
use Rattle.oci_schema.specs.Unknown.{unknown}
use Rattle.oci_schema.proofs.Unlisted.{exactly}
use Rattle.oci_schema.proofs.unknown.unknown_members.Goals as goal

pub returns-clause-listed : goal.returns-clause-listed
returns-clause-listed g c =
    let s = schema_shape (g.T.Records.shape_at c.args.records.now) c.args.schema.now in
    let d = view c.args.value.now in
    exactly s d c.add_schema.new.found.items (c.in_ok-add_schema.ensures ∙ ap (λ v. map reported v ++ unknown s [] d) c.new-found.ensures.items)
