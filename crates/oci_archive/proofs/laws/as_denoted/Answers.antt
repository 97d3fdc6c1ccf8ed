use Rattle.oci_archive.proofs.Denoted.{same_contents, same_tops, same_names}
use Rattle.oci_archive.proofs.laws.as_denoted.Goals as goal

pub returns : goal.returns
returns c = record {
  contents = λ bytes es places held index. same_contents bytes es places held index;
  tops = λ bytes es places held index. same_tops bytes es places held index;
  names = λ bytes es places held index path. same_names bytes es places held index path;
}
