use Rattle.oci_convert.proofs.Again.{process_twice}
use Rattle.oci_convert.proofs.laws.converts_process_once.Goals as goal

pub returns : goal.returns
returns g c = λ a os config before after h. process_twice _ _ _ _ os config before after h
