use Rattle.std.proofs.Common.{sym}
use Rattle.serde_json.specs.View.{view}
use Rattle.oci_verify.specs.Layers.{LayerUnpacks, PlaceUnpacks}
use Rattle.oci_verify.proofs.Agreeing.{answers, over_each, yes}
use Rattle.oci_verify.proofs.Unpacking.{no_id, no_layer, place_unpacks}
use Rattle.oci_verify.proofs.layers.Layers.place_unpacks.Goals as goal

pub returns-in-Some-value_at : goal.returns-in-Some-value_at
returns-in-Some-value_at g c =
    let self = c.args.self.now in
    let store = self.documents.now.store.now in
    let steady = g.S.Store.steady store in
    let contents = g.S.Store.contents store in
    let layers = c.args.layers.now.items in
    let ids = c.args.ids.now.items in
    let layer = c.in-Some.layer.now in
    let id = c.in-Some-value_at.id.now in
    answers steady contents (λ k. LayerUnpacks self.asked.now k (view layer) (view id)) (λ k. PlaceUnpacks self.asked.now k layers ids c.args.place) c.layer_unpacks.result
    (over_each steady contents _ (λ k. place_unpacks self.asked.now k layers ids c.args.place layer id (sym c.in-Some.ensures) (sym c.in-Some-value_at.ensures))) c.layer_unpacks.ensures

pub returns-in-None-value_at : goal.returns-in-None-value_at
returns-in-None-value_at g c =
    let self = c.args.self.now in
    let store = self.documents.now.store.now in
    let steady = g.S.Store.steady store in
    let contents = g.S.Store.contents store in
    let layers = c.args.layers.now.items in
    let ids = c.args.ids.now.items in
    yes steady contents (λ k. PlaceUnpacks self.asked.now k layers ids c.args.place)
    (over_each steady contents (λ k. PlaceUnpacks self.asked.now k layers ids c.args.place) (λ k. no_id self.asked.now k layers ids c.args.place (sym c.in-None-value_at.ensures)))

pub returns-in-None : goal.returns-in-None
returns-in-None g c =
    let self = c.args.self.now in
    let store = self.documents.now.store.now in
    let steady = g.S.Store.steady store in
    let contents = g.S.Store.contents store in
    let layers = c.args.layers.now.items in
    let ids = c.args.ids.now.items in
    yes steady contents (λ k. PlaceUnpacks self.asked.now k layers ids c.args.place)
    (over_each steady contents (λ k. PlaceUnpacks self.asked.now k layers ids c.args.place) (λ k. no_layer self.asked.now k layers ids c.args.place (sym c.in-None.ensures)))
