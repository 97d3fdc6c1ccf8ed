use Rattle.oci_rules.proofs.Grammars.{in_order}
use Rattle.oci_rules.proofs.passes.is_in_order.Goals as goal

pub returns : goal.returns
returns c = in_order c.args.first.now c.args.second.now c.are_in_order.result c.are_in_order.ensures
