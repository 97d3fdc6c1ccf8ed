use Rattle.std.proofs.Common.{◌≡◌}
use Rattle.serde_json.specs.Written.{members_have_float}
use Rattle.oci_model.specs.FreeValues.{values_view}
use Rattle.oci_model.specs.Value.{free_members}
use Rattle.oci_model.proofs.free_values.values_have_other_numbers.Given as goal

abbrev pub invariant-loop-value : goal.invariant-loop-value
invariant-loop-value l = members_have_float (free_members (values_view l.entries.entries)) ≡ members_have_float (free_members (values_view l.value-iterator))
