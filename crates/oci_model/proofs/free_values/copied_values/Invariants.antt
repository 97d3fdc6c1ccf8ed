use Rattle.std.proofs.Common.{◌≡◌, List, ◌++◌}
use Rattle.oci_model.specs.FreeValues.{FreeEntry, values_view}
use Rattle.oci_model.proofs.free_values.copied_values.Given as goal

abbrev pub invariant-loop-name : goal.invariant-loop-name
invariant-loop-name l =
    (done : List FreeEntry) × (l.entries.entries ≡ done ++ l.name-iterator) × (values_view l.copies.entries ≡ values_view done)
