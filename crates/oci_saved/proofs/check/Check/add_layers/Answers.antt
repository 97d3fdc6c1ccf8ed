use Rattle.std.proofs.Common.{arith}
use Rattle.serde_json.specs.View.{view}
use Rattle.oci_saved.proofs.Layers.{all_counted, all_end, all_more, seen_at, seen_length}
use Rattle.oci_saved.proofs.check.Check.add_layers.Goals as goal

pub each-init : goal.each-init
each-init g c =
    all_counted _ _ c.args.self.now.limit c.args.at (view c.args.item.now) (view c.args.config.now) _ _ c.args.found.now.items c.add_count.new.found.items
    (seen_length c.array_under-layers.result.now _ c.array_under-layers.ensures)
    (seen_length c.diff_ids_of-ids.result.now _ c.diff_ids_of-ids.ensures) c.in_ok-add_count.ensures

pub each-preserved : goal.each-preserved
each-preserved g c =
    all_more _ _ c.args.self.now.limit c.args.at c.each.place (view c.args.item.now) (view c.args.config.now) (view c.index-layers-place.result) (view c.index-ids-place.result) c.in_ok-wrong.wrong
    c.args.found.now.items c.each.found.items c.add_layer.new.found.items
    (seen_at c.array_under-layers.result.now _ c.each.place c.index-layers-place.result c.array_under-layers.ensures (omega arith) c.index-layers-place.is)
    (seen_at c.diff_ids_of-ids.result.now _ c.each.place c.index-ids-place.result c.diff_ids_of-ids.ensures (omega arith) c.index-ids-place.is) c.in_ok-add_layer.ensures c.in_ok-wrong.ensures
    c.each.invariant

pub returns : goal.returns
returns g c =
    all_end _ _ c.args.self.now.limit c.args.at c.each.place _ _ (view c.args.item.now) (view c.args.config.now) c.args.found.now.items c.each.found.items
    (seen_length c.array_under-layers.result.now _ c.array_under-layers.ensures)
    (seen_length c.diff_ids_of-ids.result.now _ c.diff_ids_of-ids.ensures) (omega arith) c.each.invariant
