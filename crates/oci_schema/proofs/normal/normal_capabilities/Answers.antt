use Rattle.serde_json.specs.View.{view}
use Rattle.oci_text.specs.Capability.{capability_table}
use Rattle.oci_text.specs.CapabilitySets.{set_plain}
use Rattle.oci_model.specs.Shape.{cap_set}
use Rattle.oci_model.proofs.Lists.{exits}
use Rattle.oci_schema.proofs.Parts.{not_allowed, written_told}
use Rattle.oci_schema.proofs.normal.normal_capabilities.Goals as goal

pub returns-in_err-set-clause-err : goal.returns-in_err-set-clause-err
returns-in_err-set-clause-err c =
    exits _ _ _ c.from_residual.ensures.1 (λ h. not_allowed (cap_set capability_table) (view c.args.value) (c.in_err-set.ensures.err h))

pub returns-clause-ok : goal.returns-clause-ok
returns-clause-ok c = written_told c.write.result (cap_set capability_table) (view c.args.value) (set_plain c.in_ok-set.set) c.in_ok-set.ensures.ok tt c.write.ensures.ok
