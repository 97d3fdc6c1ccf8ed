use Rattle.std.proofs.Common.{◌≡◌, ◌++◌, ap, ◌∙◌}
use Rattle.oci_rules.specs.Tables.{level_of}
use Rattle.oci_ffi.specs.Fields.{field, level_word}
use Rattle.oci_ffi.proofs.Pushed.{five, ok_then}
use Rattle.oci_ffi.proofs.Words.{is_word}
use Rattle.oci_ffi.proofs.fields.push_broken.Goals as goal

pub returns : goal.returns
returns c =
    let rule = c.args.broken.now.rule.now in
    let word : c.word.result.now ≡ level_word (level_of rule.level) = is_word _ _ c.word.ensures in
    let pointer = c.in_ok-push_field.ensures ∙ ap (λ t. c.args.fields.now.items ++ field t) c.as_str.ensures.value in
    let level = c.in_ok-push_field-3.ensures ∙ ap (λ t. c.push_field-2.new.fields.items ++ field t) word in
    ok_then c.push_field-5.result (five _ _ _ _ _ _ _ _ _ _ _ pointer c.in_ok-push_field-2.ensures level c.in_ok-push_field-4.ensures) c.push_field-5.ensures
