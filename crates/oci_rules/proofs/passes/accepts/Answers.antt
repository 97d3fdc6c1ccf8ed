use Rattle.oci_rules.proofs.Grammars.{accepted}
use Rattle.oci_rules.proofs.passes.accepts.Goals as goal

pub returns : goal.returns
returns c = accepted c.args.grammar c.args.text.now c.accepts.result c.accepts.ensures
