use Rattle.std.proofs.Common.{◌≡◌, ◌∙◌, ap, rules}
use Rattle.std.specs.Prelude.{string_bytes}
use Rattle.serde_json.specs.Data.{string}
use Rattle.serde_json.specs.View.{view}
use Rattle.serde_json.specs.declared.value.Value.{String, the_lemmas}
use Rattle.oci_inspect.proofs.Objects.{says_digest}
use Rattle.oci_inspect.proofs.object.with_digest.Goals as goal

pub returns : goal.returns
returns c =
    let seen : view (String c.in_ok-text.text) ≡ string (string_bytes c.in_ok-text.text) = search (rules, the_lemmas) in
    says_digest c.object.result c.args.out c.insert.new.self (String c.in_ok-text.text) c.args.digest.now
    (seen ∙ ap string (c.in_ok-text.ensures.ok ∙ c.as_ref.ensures.value)) c.insert.ensures.ok c.object.ensures.ok
