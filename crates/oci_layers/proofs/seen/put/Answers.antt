use Rattle.oci_rules.proofs.Sets.{put_one}
use Rattle.oci_layers.proofs.seen.put.Goals as goal

pub returns-in_ok-insert : goal.returns-in_ok-insert
returns-in_ok-insert c = λ q. put_one c.args.text c.in-Some.text c.args.set.now c.insert.new.self c.in-Some.is c.in_ok-insert.ensures.updates q
