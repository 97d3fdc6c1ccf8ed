-- A text of length 0 is empty.
use Rattle.oci_reference.proofs.WholeTexts.{not_empty}
use Rattle.oci_reference.proofs.texts.some_text.Goals as goal

pub returns : goal.returns
returns c = not_empty c.args.text.now c.is_empty.result c.is_empty.ensures
