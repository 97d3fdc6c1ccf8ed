use Rattle.std.proofs.Common.{[]}
use Rattle.oci_schema.proofs.FieldWalk.{if_done}
use Rattle.oci_schema.proofs.bytes.tape.is_accepted_tape.Goals as goal

pub returns : goal.returns
returns g c = if_done c.write_tape.result _ _ c.write_tape.ensures (λ wrote. let w = (wrote.each [] tt).2 in λ d begins. (w d begins).0)
