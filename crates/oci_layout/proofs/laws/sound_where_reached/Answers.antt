use Rattle.oci_layout.proofs.Sound.{sound_where_reached}
use Rattle.oci_layout.proofs.laws.sound_where_reached.Goals as goal

pub returns : goal.returns
returns c = sound_where_reached
