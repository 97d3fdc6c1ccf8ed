use Rattle.oci_findings.proofs.NoErrors.{no_error}
use Rattle.oci_findings.proofs.laws.no_error_is_fine.Goals as goal

pub returns : goal.returns
returns c = no_error
