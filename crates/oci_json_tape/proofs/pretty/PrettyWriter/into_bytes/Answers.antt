use Rattle.std.proofs.Common.{◌∙◌}
use Rattle.oci_json_tape.proofs.Layouts.{pretty_of}
use Rattle.oci_json_tape.proofs.pretty.PrettyWriter.into_bytes.Goals as goal

pub returns-clause-text : goal.returns-clause-text
returns-clause-text c = λ d same readable none.
    pretty_of c.self.inside.out c.into_inner.result.items d c.into_inner.ensures.value c.into_inner.ensures.layout (c.self.view_is ∙ same) readable none
