use Rattle.std.proofs.Common.{sym, ◌∙◌}
use Rattle.oci_model.proofs.FreeMaps.{means, refused_float, refused_other}
use Rattle.oci_model.proofs.free_values.FreeValuesOciKindBTreeMapStringOptionValue.read.Goals as goal

pub returns-then-members_have_other_numbers-clause-err : goal.returns-then-members_have_other_numbers-clause-err
returns-then-members_have_other_numbers-clause-err c = λ h.
    refused_float _ _ (sym c.in-Some.ensures) (sym c.members_have_other_numbers.ensures ∙ c.if-members_have_other_numbers.true)

pub returns-in_ok-kept_values-in-Some-clause-ok : goal.returns-in_ok-kept_values-in-Some-clause-ok
returns-in_ok-kept_values-in-Some-clause-ok c =
    means _ _ c.in_ok-kept_values-in-Some.field-0.entries (sym c.in-Some.ensures) (sym c.members_have_other_numbers.ensures ∙ c.if-members_have_other_numbers.false) c.in_ok-kept_values-in-Some.ensures

pub returns-in-None-clause-err : goal.returns-in-None-clause-err
returns-in-None-clause-err c = λ h. refused_other _ c.in-None.ensures
