use Rattle.oci_layers.proofs.Checksums.{one_archive}
use Rattle.oci_layers.proofs.laws.one_archive.Goals as goal

pub returns : goal.returns
returns c = one_archive c.one_meaning.ensures
