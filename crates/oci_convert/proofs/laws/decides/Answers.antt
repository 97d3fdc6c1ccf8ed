use Rattle.oci_convert.proofs.Refused.{not_refused}
use Rattle.oci_convert.proofs.laws.decides.Goals as goal

pub returns : goal.returns
returns g c = λ a image volume before after e h r. not_refused _ _ _ _ image volume before after e h r
