use Rattle.oci_convert.proofs.Commands.{passed_on}
use Rattle.oci_convert.proofs.process_user.set_posix_user.Goals as goal

pub returns-in_err-uid-clause-err : goal.returns-in_err-uid-clause-err
returns-in_err-uid-clause-err g c = passed_on c.from_residual.result c.in_err-uid.field-0.0 _ c.from_residual.ensures.1 c.in_err-uid.ensures.err
