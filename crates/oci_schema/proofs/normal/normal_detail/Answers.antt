use Rattle.serde_json.specs.View.{view}
use Rattle.oci_model.proofs.Lists.{exits}
use Rattle.oci_schema.proofs.Parts.{not_accepted}
use Rattle.oci_schema.proofs.normal.normal_detail.Goals as goal

pub returns-in_err-text-clause-err : goal.returns-in_err-text-clause-err
returns-in_err-text-clause-err c = exits _ _ _ c.from_residual.ensures.1 (λ h. not_accepted (view c.args.value) (c.in_err-text.ensures.err h))
