use Rattle.oci_commands.proofs.CheckIsFormat.{check_is_format}
use Rattle.oci_commands.proofs.laws.check_is_format.Goals as goal

pub returns : goal.returns
returns c = check_is_format
