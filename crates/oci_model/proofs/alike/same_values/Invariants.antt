use Rattle.std.proofs.Common.{◌≡◌}
use Rattle.oci_model.specs.FreeValues.{values_view, are_alike}
use Rattle.oci_model.proofs.alike.same_values.Given as goal

abbrev pub invariant-loop-k : goal.invariant-loop-k
invariant-loop-k l =
    are_alike (values_view l.a.entries) (values_view l.b.entries) ≡ are_alike (values_view l.k-iterator) (values_view l.others)
