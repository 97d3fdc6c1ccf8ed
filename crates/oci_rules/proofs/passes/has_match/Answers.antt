use Rattle.oci_rules.proofs.Grammars.{matched}
use Rattle.oci_rules.proofs.passes.has_match.Goals as goal

pub returns : goal.returns
returns c = matched c.args.pattern.now c.args.text.now c.in_ok-found.found c.in_ok-found.ensures
