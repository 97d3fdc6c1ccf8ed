use Rattle.oci_json_tape.proofs.Walks.{items_data}
use Rattle.oci_json_tape.proofs.walk.items.Goals as goal

pub returns : goal.returns
returns c = items_data _ _ c.items.ensures
