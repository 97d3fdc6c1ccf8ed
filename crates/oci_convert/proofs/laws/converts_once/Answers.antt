use Rattle.oci_convert.proofs.Twice.{once}
use Rattle.oci_convert.proofs.laws.converts_once.Goals as goal

pub returns : goal.returns
returns g c = λ a image volume before after h. once _ _ _ _ image volume before after h
