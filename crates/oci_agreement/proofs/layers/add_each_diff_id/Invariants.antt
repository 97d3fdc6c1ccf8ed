use Rattle.std.proofs.Common.{◌≡◌, ◌++◌, drop, map}
use Rattle.serde_json.specs.View.{items_view}
use Rattle.oci_agreement.specs.Listed.{told_of, diff_ids_told}
use Rattle.oci_agreement.proofs.layers.add_each_diff_id.Given as goal

-- what was told, and what is still to be told, is all
abbrev pub invariant-each : goal.invariant-each
invariant-each l =
    map told_of l.broken.items ++ diff_ids_told l.index (items_view (drop l.index l.layers.items)) (items_view (drop l.index l.ids.items))
    ≡ map told_of l.initial.broken.items ++ diff_ids_told 0 (items_view l.layers.items) (items_view l.ids.items)
