use Rattle.std.proofs.Common.{[]}
use Rattle.oci_schema.proofs.FieldWalk.{if_done}
use Rattle.oci_schema.proofs.bytes.lane.is_accepted.Goals as goal

pub returns : goal.returns
returns g c = if_done c.write_document.result _ _ c.write_document.ensures (λ wrote. let w = (wrote.each [] tt).2 in (w.0, w.1, w.2))
