use Rattle.std.proofs.Common.{◌≡◌, map, string_bytes, false, arith, sym, ◌∙◌}
use Rattle.std.specs.Prelude.{fold}
use Rattle.std.proofs.lemmas.Grind.{common_steps}
use Rattle.oci_examples.specs.Policy.{read_only_after}
use Rattle.oci_examples.proofs.Folds.{fold_more}
use Rattle.oci_examples.proofs.LastOption.{told_of_all}
use Rattle.oci_examples.proofs.check_policy.last_is_read_only.Goals as goal

pub loop-option-preserved : goal.loop-option-preserved
loop-option-preserved c =
    let more = fold_more read_only_after string_bytes false c.deref-option-items.result.now c.loop-option.option-index c.option-item.result c.loop-option-test.true in
    let item = c.option-item.is in
    let after = c.after-read_only.ensures in
    let said = c.as_str.ensures.value in
    let before = c.loop-option.invariant in cc

pub returns : goal.returns
returns c =
    let told = told_of_all (map string_bytes c.args.options.now.items) in
    let is : c.loop-option.read_only ≡ fold read_only_after false (map string_bytes c.args.options.now.items) = grind (arith, common_steps, c.loop-option.invariant) in
    (λ yes. told.0 (sym is ∙ yes), λ it. is ∙ told.1 it)
