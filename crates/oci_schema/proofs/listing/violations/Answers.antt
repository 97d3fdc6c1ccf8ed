use Rattle.std.proofs.Common.{[], ◌++◌, map, sym, ap, ◌∙◌, subst}
use Rattle.std.specs.List.{Contains}
use Rattle.serde_json.specs.View.{view}
use Rattle.oci_schema.specs.Shapes.{schema_shape}
use Rattle.oci_schema.specs.Violations.{Report, reported, violations}
use Rattle.oci_schema.proofs.Complete.{is_listed}
use Rattle.oci_schema.proofs.Listed.{empty_is_meant}
use Rattle.oci_schema.proofs.Sound.{listed_is}
use Rattle.oci_schema.proofs.listing.violations.Goals as goal

pub returns-clause-none : goal.returns-clause-none
returns-clause-none g c =
    let s = schema_shape (g.T.Records.shape_at c.args.records.now) c.args.schema.now in
    let d = view c.args.value.now in
    empty_is_meant s d c.add_violations.new.found.items (c.in_ok-add_violations.ensures ∙ ap (λ v. map reported v ++ violations s [] d) c.new-found.ensures.items)

pub returns-clause-exact : goal.returns-clause-exact
returns-clause-exact g c =
    let s = schema_shape (g.T.Records.shape_at c.args.records.now) c.args.schema.now in
    let d = view c.args.value.now in
    let is = c.in_ok-add_violations.ensures ∙ ap (λ v. map reported v ++ violations s [] d) c.new-found.ensures.items in
    λ (x : Report). ((λ h. listed_is s [] d x (subst (λ l. Contains l x) is h)), (λ it. subst (λ l. Contains l x) (sym is) (is_listed s [] d x it)))
