use Rattle.serde_json.specs.View.{view}
use Rattle.oci_model.specs.Keys.{keys_plain}
use Rattle.oci_model.specs.Shape.{key_set}
use Rattle.oci_model.proofs.Lists.{exits}
use Rattle.oci_schema.proofs.Parts.{not_allowed, written_told}
use Rattle.oci_schema.proofs.normal.normal_keys.Goals as goal

pub returns-in_err-names-clause-err : goal.returns-in_err-names-clause-err
returns-in_err-names-clause-err c =
    exits _ _ _ c.from_residual.ensures.1 (λ h. not_allowed key_set (view c.args.value) (c.in_err-names.ensures.err h))

pub returns-clause-ok : goal.returns-clause-ok
returns-clause-ok c = written_told c.write.result key_set (view c.args.value) (keys_plain c.in_ok-names.names) c.in_ok-names.ensures.ok tt c.write.ensures.ok
