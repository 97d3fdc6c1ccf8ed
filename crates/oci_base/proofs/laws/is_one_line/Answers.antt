use Rattle.oci_base.proofs.Lines.{escaped_is_one_line}
use Rattle.oci_base.proofs.laws.is_one_line.Goals as goal

pub returns : goal.returns
returns c = escaped_is_one_line
