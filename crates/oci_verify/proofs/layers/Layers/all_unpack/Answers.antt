use Rattle.std.proofs.Common.{arith}
use Rattle.oci_verify.proofs.Unpacking.{all_pairs, more_below, none_below}
use Rattle.oci_verify.proofs.layers.Layers.all_unpack.Goals as goal

pub each-init : goal.each-init
each-init g c =
    let self = c.args.self.now in
    let store = self.documents.now.store.now in
    none_below self.asked.now (g.S.Store.steady store) (g.S.Store.contents store) c.args.layers.now.items c.args.ids.now.items

pub each-preserved : goal.each-preserved
each-preserved g c =
    let self = c.args.self.now in
    let store = self.documents.now.store.now in
    more_below self.asked.now (g.S.Store.steady store) (g.S.Store.contents store) c.args.layers.now.items c.args.ids.now.items c.each.place c.each.all c.in_ok-here.here c.are_both-all.result
    c.are_both-all.ensures c.each.invariant c.in_ok-here.ensures

pub returns : goal.returns
returns g c =
    let self = c.args.self.now in
    let store = self.documents.now.store.now in
    all_pairs self.asked.now (g.S.Store.steady store) (g.S.Store.contents store) c.args.layers.now.items c.args.ids.now.items c.each.place c.each.all (omega arith) c.each.invariant
