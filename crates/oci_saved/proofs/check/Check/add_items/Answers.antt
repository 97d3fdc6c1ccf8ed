use Rattle.std.proofs.Common.{map, refl, arith}
use Rattle.serde_json.specs.View.{view}
use Rattle.oci_saved.proofs.Images.{images_end, images_init, images_more}
use Rattle.oci_saved.proofs.Layers.{seen_at, seen_length}
use Rattle.oci_saved.proofs.check.Check.add_items.Goals as goal

pub each-init : goal.each-init
each-init g c = images_init _ _ c.args.self.now.limit (map view c.args.items.now) c.args.found.now.items

pub each-preserved : goal.each-preserved
each-preserved g c =
    images_more _ _ c.args.self.now.limit (map view c.args.items.now) c.each.at (view c.index-items-at.result) c.args.found.now.items c.each.found.items c.add_item.new.found.items
    (seen_at c.args.items.now _ c.each.at c.index-items-at.result refl (omega arith) c.index-items-at.is) c.each.invariant c.in_ok-add_item.ensures

pub returns : goal.returns
returns g c =
    let same = seen_length c.args.items.now (map view c.args.items.now) refl in
    images_end _ _ c.args.self.now.limit (map view c.args.items.now) c.each.at c.args.found.now.items c.each.found.items (omega (arith, same)) c.each.invariant
