use Rattle.oci_rules.proofs.Grammars.{inside}
use Rattle.oci_rules.proofs.apart.is_within.Goals as goal

pub returns : goal.returns
returns c = inside c.args.other.now c.args.path.now c.is_inside.result c.is_inside.ensures
