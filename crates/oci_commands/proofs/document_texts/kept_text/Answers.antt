use Rattle.serde_json.specs.View.{view}
use Rattle.oci_commands.proofs.document_texts.kept_text.Goals as goal

pub returns-clause-ok : goal.returns-clause-ok
returns-clause-ok c = (view c.in_ok-value.value, c.in_ok-value.ensures.ok, c.in_ok-text.ensures)
