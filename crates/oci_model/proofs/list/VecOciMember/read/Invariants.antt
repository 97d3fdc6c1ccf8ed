use Rattle.std.proofs.Common.{◌≡◌, List, ◌++◌, map}
use Rattle.std.specs.Vec.Iter.{into_iter_items}
use Rattle.serde_json.specs.View.{items_view}
use Rattle.serde_json.specs.declared.value.Value.{Value}
use Rattle.oci_model.specs.Means.{Means, EachMeans}
use Rattle.oci_model.specs.Plain.{plains}
use Rattle.oci_model.proofs.list.VecOciMember.read.Given as goal

abbrev pub invariant-loop-item : goal.invariant-loop-item
invariant-loop-item g l =
    (done : List Value) × (into_iter_items l.initial.item-iterator ≡ done ++ into_iter_items l.item-iterator)
    × EachMeans (Means g.T.OciMember.shape) (items_view done) (plains (map g.T.OciMember.plain l.listed.items))
