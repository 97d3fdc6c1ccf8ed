use Rattle.std.proofs.Common.{◌≡◌, List, ◌++◌}
use Rattle.serde_json.specs.View.{members_view}
use Rattle.oci_model.specs.FreeValues.{FreeEntry, values_view}
use Rattle.oci_model.specs.Value.{free_members}
use Rattle.oci_model.proofs.free_values.written_values.Given as goal

abbrev pub invariant-loop-name : goal.invariant-loop-name
invariant-loop-name l =
    (done : List FreeEntry) × (l.entries.entries ≡ done ++ l.name-iterator) × (members_view l.members.entries ≡ free_members (values_view done))
