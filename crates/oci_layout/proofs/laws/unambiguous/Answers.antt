use Rattle.oci_layout.proofs.Unambiguous.{unambiguous}
use Rattle.oci_layout.proofs.laws.unambiguous.Goals as goal

pub returns : goal.returns
returns c = unambiguous
