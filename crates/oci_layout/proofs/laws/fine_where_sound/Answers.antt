use Rattle.oci_layout.proofs.Sound.{fine_where_sound}
use Rattle.oci_layout.proofs.laws.fine_where_sound.Goals as goal

pub returns : goal.returns
returns c = fine_where_sound
