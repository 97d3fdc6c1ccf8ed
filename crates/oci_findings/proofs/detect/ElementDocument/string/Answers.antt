use Rattle.std.proofs.Common.{ap, sym, ◌∙◌}
use Rattle.std.specs.Prelude.{option_and_then}
use Rattle.serde_json.specs.Find.{as_str}
use Rattle.oci_findings.proofs.detect.ElementDocument.string.Goals as goal

pub returns-in-Some : goal.returns-in-Some
returns-in-Some c = λ d begins. let (e, is, at) = c.in-Some.ensures d begins in c.text.ensures e at ∙ sym (ap (option_and_then as_str) is)

pub returns-in-None : goal.returns-in-None
returns-in-None c = λ d begins. sym (ap (option_and_then as_str) (c.in-None.ensures d begins))
