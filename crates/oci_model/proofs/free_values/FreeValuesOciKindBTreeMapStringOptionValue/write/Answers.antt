use Rattle.std.proofs.Common.{sym, ◌∙◌, true≢false}
use Rattle.serde_json.proofs.Views.{view-Object}
use Rattle.oci_model.proofs.FreeMaps.{writes, fits, floats_kept}
use Rattle.oci_model.proofs.free_values.FreeValuesOciKindBTreeMapStringOptionValue.write.Goals as goal

pub returns-then-values_have_other_numbers-clause-err : goal.returns-then-values_have_other_numbers-clause-err
returns-then-values_have_other_numbers-clause-err c = λ h none.
    true≢false (sym (floats_kept c.args.x.now.entries _ (sym c.values_have_other_numbers.ensures ∙ c.if-values_have_other_numbers.true)) ∙ none)

pub returns-in_ok-written_values-clause-ok : goal.returns-in_ok-written_values-clause-ok
returns-in_ok-written_values-clause-ok c =
    view-Object c.in_ok-written_values.field-0
    ∙ writes c.args.x.now.entries _ c.in_ok-written_values.ensures (sym c.values_have_other_numbers.ensures ∙ c.if-values_have_other_numbers.false)

pub returns-in_ok-written_values-clause-fits : goal.returns-in_ok-written_values-clause-fits
returns-in_ok-written_values-clause-fits c = fits c.args.x.now.entries

pub returns-in_ok-written_values-clause-writable : goal.returns-in_ok-written_values-clause-writable
returns-in_ok-written_values-clause-writable c = floats_kept c.args.x.now.entries _ (sym c.values_have_other_numbers.ensures ∙ c.if-values_have_other_numbers.false)
