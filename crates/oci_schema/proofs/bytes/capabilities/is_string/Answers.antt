use Rattle.std.proofs.Common.{◌≡◌, Some, sym, ap, ◌∙◌, subst}
use Rattle.std.proofs.lemmas.Slice.Eq.{bytes_eq-Decides}
use Rattle.serde_json.specs.Data.{string}
use Rattle.oci_json_tape.specs.Elements.{FindsData}
use Rattle.oci_schema.proofs.NormalForms.{string_kept}
use Rattle.oci_schema.proofs.bytes.capabilities.is_string.Goals as goal

pub returns-in-Some-text : goal.returns-in-Some-text
returns-in-Some-text c = λ yes o finds.
    let content = c.in-Some-text.content.now in
    let found = subst (λ r. FindsData r o) c.in-Some.is finds in
    let same : content ≡ c.args.name.now = (bytes_eq-Decides content c.args.name.now).0 (sym c.eq.ensures ∙ yes) in
    found.1 ∙ ap Some (string_kept found.0 content (sym (c.in-Some-text.ensures found.0 found.2)) ∙ ap string same)
