use Rattle.oci_json_tape.proofs.Walks.{next_member_data}
use Rattle.oci_json_tape.proofs.walk.next_member.Goals as goal

pub returns-clause-value : goal.returns-clause-value
returns-clause-value c = next_member_data _ _ _ c.next.ensures.value
