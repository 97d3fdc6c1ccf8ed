use Rattle.std.proofs.Common.{◌∙◌, sym}
use Rattle.oci_json_tape.proofs.LookUps.{is_null-of_json}
use Rattle.oci_json_tape.proofs.element.is_null.Goals as goal

pub returns : goal.returns
returns c d b = c.is_null.ensures b.0 b.1 ∙ sym (is_null-of_json b.0 d b.2)
