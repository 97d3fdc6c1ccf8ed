use Rattle.oci_schema.proofs.Sets.{one_more}
use Rattle.oci_schema.proofs.twice.put.Goals as goal

pub returns : goal.returns
returns c = λ q. one_more c.in_ok-key.key c.args.name.now c.args.names.now c.insert.new.self c.in_ok-key.ensures.ok c.in_ok-insert.ensures.updates q
