use Rattle.std.proofs.Common.{◌≡◌, ◌∙◌, sym, rules}
use Rattle.serde_json.specs.Data.{null, boolean, string}
use Rattle.serde_json.specs.View.{view}
use Rattle.serde_json.specs.declared.value.Value.{String, Bool, Null, the_lemmas}
use Rattle.oci_json_tape.proofs.Kept.{string_kept, boolean_kept, null_kept, number_made}
use Rattle.oci_json_tape.proofs.read.scalar_of.Goals as goal

pub returns-in-Some-clause-value : goal.returns-in-Some-clause-value
returns-in-Some-clause-value c d b =
    let seen : view (String c.in_ok-from_str.field-0) ≡ string c.in-Some.content.now = search (rules, the_lemmas) in
    seen ∙ string_kept d _ (c.in-Some.ensures d b)

pub returns-in-Some-number-clause-value : goal.returns-in-Some-number-clause-value
returns-in-Some-number-clause-value c = number_made c.number_value.result c.args.element.now _ c.in-Some-number.ensures c.number_value.ensures

pub returns-in-Some-boolean-clause-value : goal.returns-in-Some-boolean-clause-value
returns-in-Some-boolean-clause-value c d b =
    let seen : view (Bool c.in-Some-boolean.truth) ≡ boolean c.in-Some-boolean.truth = search (rules, the_lemmas) in
    seen ∙ boolean_kept d _ (c.in-Some-boolean.ensures d b)

pub returns-then-is_null-clause-value : goal.returns-then-is_null-clause-value
returns-then-is_null-clause-value c d b =
    let seen : view Null ≡ null = search (rules, the_lemmas) in
    seen ∙ null_kept d (sym c.if-is_null.true ∙ c.is_null.ensures d b)
