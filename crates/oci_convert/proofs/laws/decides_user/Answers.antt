use Rattle.oci_convert.proofs.Decided.{not_process}
use Rattle.oci_convert.proofs.laws.decides_user.Goals as goal

pub returns : goal.returns
returns g c = λ a os config before after e h r. not_process _ _ _ _ os config before after e h r
