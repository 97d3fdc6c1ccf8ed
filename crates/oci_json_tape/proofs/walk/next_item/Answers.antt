use Rattle.oci_json_tape.proofs.Walks.{next_item_data}
use Rattle.oci_json_tape.proofs.walk.next_item.Goals as goal

pub returns-clause-value : goal.returns-clause-value
returns-clause-value c = next_item_data _ _ _ c.next.ensures.value
