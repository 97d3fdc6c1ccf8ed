use Rattle.oci_convert.proofs.Mounted.{mounts_twice}
use Rattle.oci_convert.proofs.laws.mounts_once.Goals as goal

pub returns : goal.returns
returns c = mounts_twice
