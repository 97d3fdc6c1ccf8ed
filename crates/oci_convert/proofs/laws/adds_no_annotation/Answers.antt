use Rattle.oci_convert.proofs.Twice.{said_by}
use Rattle.oci_convert.proofs.laws.adds_no_annotation.Goals as goal

pub returns : goal.returns
returns g c = λ a image volume before after h key value e. said_by _ _ _ _ image volume before after h key value e
