use Rattle.oci_json_tape.proofs.Walks.{members_data}
use Rattle.oci_json_tape.proofs.walk.members.Goals as goal

pub returns : goal.returns
returns c = members_data _ _ c.members.ensures
