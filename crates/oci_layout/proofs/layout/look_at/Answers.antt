use Rattle.std.proofs.Common.{sym}
use Rattle.oci_layout.proofs.layout.look_at.Goals as goal

pub returns-in-None : goal.returns-in-None
returns-in-None g c = c.look_at_bytes.ensures (sym (rw c.in-None.is at c.schema.ensures))
