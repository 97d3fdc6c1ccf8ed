-- The text is spelled of no name.
use Rattle.serde_json.specs.View.{view}
use Rattle.oci_model.proofs.ClosedMembers.{not_named}
use Rattle.oci_model.proofs.closed.read_name.Goals as goal

pub returns-in-None-from_json_name-clause-err : goal.returns-in-None-from_json_name-clause-err
returns-in-None-from_json_name-clause-err g c = λ _. not_named g.T.JsonName.table g.T.JsonName.Spells c.in-Some.text.now (view c.args.value.now) c.in-Some.ensures c.requires c.in-None-from_json_name.ensures.none
