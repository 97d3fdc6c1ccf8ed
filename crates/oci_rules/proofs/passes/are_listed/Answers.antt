use Rattle.oci_rules.proofs.Grammars.{listed}
use Rattle.oci_rules.proofs.passes.are_listed.Goals as goal

pub returns : goal.returns
returns c = listed _ _ c.args.text.now c.has_listed_licenses.result c.has_listed_licenses.ensures
