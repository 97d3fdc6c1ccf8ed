use Rattle.std.proofs.Common.{◌∙◌, sym}
use Rattle.oci_json_tape.proofs.LookUps.{as_bool-of_json}
use Rattle.oci_json_tape.proofs.element.boolean.Goals as goal

pub returns : goal.returns
returns c d b = c.as_bool.ensures b.0 b.1 ∙ sym (as_bool-of_json b.0 d b.2)
