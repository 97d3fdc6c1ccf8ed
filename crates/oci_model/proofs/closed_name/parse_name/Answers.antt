-- The text is no value's.
use Rattle.oci_model.proofs.Tables.{none_named}
use Rattle.oci_model.proofs.closed_name.parse_name.Goals as goal

pub returns-in-None-clause-err : goal.returns-in-None-clause-err
returns-in-None-clause-err g c = none_named g.T.ClosedName.text_of g.T.ClosedName.values c.all.result.now g.met.T.ClosedName.back c.args.text.now c.all.ensures c.in-None.ensures.none
