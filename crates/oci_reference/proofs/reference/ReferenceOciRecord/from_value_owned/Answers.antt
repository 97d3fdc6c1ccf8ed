-- The error of its members.
use Rattle.oci_model.proofs.Lists.{exits}
use Rattle.oci_reference.proofs.reference.ReferenceOciRecord.from_value_owned.Goals as goal

pub returns-in_err-registry-clause-err : goal.returns-in_err-registry-clause-err
returns-in_err-registry-clause-err c = exits _ _ _ c.from_residual.ensures.1 c.in_err-registry.ensures.err
