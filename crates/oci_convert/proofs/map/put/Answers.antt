use Rattle.oci_convert.proofs.Labels.{looks}
use Rattle.oci_convert.proofs.map.put.Goals as goal

pub returns : goal.returns
returns c = looks c.args.map.now c.insert.new.self c.in_ok-key.key c.in_ok-value.value c.args.key.now c.args.value.now c.in_ok-key.ensures.ok c.in_ok-value.ensures.ok c.in_ok-insert.ensures.updates
