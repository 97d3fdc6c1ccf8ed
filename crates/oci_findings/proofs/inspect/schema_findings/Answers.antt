use Rattle.std.proofs.Common.{◌≡◌, [], ap, ◌∙◌, subst}
use Rattle.std.specs.Prelude.{◌↔◌}
use Rattle.std.proofs.lemmas.Result.{IfOk-weaker}
use Rattle.serde_json.specs.View.{view}
use Rattle.oci_model.specs.Plain.{Plain}
use Rattle.oci_model.specs.Means.{Means}
use Rattle.oci_schema.specs.Violations.{violations}
use Rattle.oci_findings.proofs.Told.{all_told, none_told}
use Rattle.oci_findings.proofs.inspect.schema_findings.Goals as goal

pub returns-clause-all : goal.returns-clause-all
returns-clause-all c =
    IfOk-weaker c.violation_findings.result _ _
    (λ v told. all_told v.items c.in_ok-listed.listed.items _ told (c.in_ok-listed.ensures.all ∙ ap (λ s. violations s [] (view c.args.value.now)) c.schema-schema.ensures.shape))
    c.violation_findings.ensures.told

pub returns-clause-none : goal.returns-clause-none
returns-clause-none c =
    IfOk-weaker c.violation_findings.result _ _
    (λ v told. none_told v.items c.in_ok-listed.listed.items _ told
    (subst (λ s. (c.in_ok-listed.listed.items ≡ []) ↔ ((p : Plain) × Means s (view c.args.value.now) p)) c.schema-schema.ensures.shape c.in_ok-listed.ensures.none))
    c.violation_findings.ensures.told
