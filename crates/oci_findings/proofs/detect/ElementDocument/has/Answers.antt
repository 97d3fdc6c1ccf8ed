use Rattle.std.proofs.Common.{◌∙◌}
use Rattle.serde_json.specs.Find.{get}
use Rattle.oci_findings.proofs.FoundKinds.{is_found}
use Rattle.oci_findings.proofs.detect.ElementDocument.has.Goals as goal

pub returns : goal.returns
returns c = λ d begins. c.is_some.ensures ∙ is_found c.find.result (get c.args.name.now d) (c.find.ensures d begins)
