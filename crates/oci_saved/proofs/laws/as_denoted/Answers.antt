use Rattle.oci_saved.proofs.Alike.{files_denoted, refused_denoted}
use Rattle.oci_saved.proofs.laws.as_denoted.Goals as goal

pub returns : goal.returns
returns c = record {
  files = λ bytes es places held index. files_denoted bytes es places held index;
  refused = λ bytes es places held index. refused_denoted bytes es places held index;
}
