use Rattle.std.proofs.Common.{◌∙◌, sym}
use Rattle.oci_json_tape.proofs.LookUps.{as_str-of_json}
use Rattle.oci_json_tape.proofs.element.text.Goals as goal

pub returns : goal.returns
returns c d b = c.as_str.ensures b.0 b.1 ∙ sym (as_str-of_json b.0 d b.2)
