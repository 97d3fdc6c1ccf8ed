use Rattle.oci_layout.proofs.Paths.{plain_parts}
use Rattle.oci_layout.proofs.laws.plain_parts.Goals as goal

pub returns : goal.returns
returns c = plain_parts
