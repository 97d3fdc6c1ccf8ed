use Rattle.std.proofs.Common.{◌≡◌, List, ◌++◌}
use Rattle.serde_json.specs.View.{members_view}
use Rattle.serde_json.proofs.Views.{Entry}
use Rattle.oci_model.specs.FreeValues.{values_view}
use Rattle.oci_model.specs.Means.{free_values}
use Rattle.oci_model.proofs.free_values.kept_values.Given as goal

abbrev pub invariant-loop-name : goal.invariant-loop-name
invariant-loop-name l =
    (done : List Entry) × (l.initial.name-iterator ≡ done ++ l.name-iterator) × (values_view l.entries.entries ≡ free_values (members_view done))
