use Rattle.oci_archive.proofs.Denoted.{unpacked_marker, unpacked_sound}
use Rattle.oci_archive.proofs.laws.as_unpacked.Goals as goal

pub returns : goal.returns
returns c = record {
  marker = λ limit es files h. unpacked_marker limit es files h;
  sound = λ limit es files h. unpacked_sound limit es files h;
}
