use Rattle.oci_convert.specs.Users.{by_id}
use Rattle.oci_convert.proofs.user.alone.Goals as goal

pub returns-clause-ok : goal.returns-clause-ok
returns-clause-ok g c = by_id c.in_ok-uid.ensures.ok.0 c.in_ok-uid.ensures.ok.1
