use Rattle.oci_base.proofs.Lines.{escaped_is_kept}
use Rattle.oci_base.proofs.laws.is_kept.Goals as goal

pub returns : goal.returns
returns c = escaped_is_kept
