use Rattle.std.proofs.Common.{◌↔◌, map, IfOk, subst}
use Rattle.std.specs.List.{Contains}
use Rattle.serde_json.specs.View.{view}
use Rattle.oci_model.specs.Shape.{Shape}
use Rattle.oci_schema.specs.Violations.{Report, reported}
use Rattle.oci_schema.specs.Wants.{IsViolation}
use Rattle.oci_spec.proofs.schema.typed.violations_as.Goals as goal

-- the type's shape is the one that its schema stands for
pub returns-clause-exact : goal.returns-clause-exact
returns-clause-exact g c =
    subst (λ (s : Shape). IfOk c.violations.result (λ v. (x : Report) → Contains (map reported v.items) x ↔ IsViolation s (view c.args.value.now) x)) c.schema.ensures c.violations.ensures.exact
