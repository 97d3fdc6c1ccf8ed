use Rattle.std.proofs.Common.{sym, ◌∙◌}
use Rattle.serde_json.specs.View.{items_view}
use Rattle.oci_agreement.specs.Agree.{EachPair}
use Rattle.oci_agreement.specs.Images.{image_of}
use Rattle.oci_verify.specs.Layers.{LayerUnpacks, LayersUnpack}
use Rattle.oci_verify.proofs.Agreeing.{answers, over_each, yes}
use Rattle.oci_verify.proofs.Unpacking.{image_pairs, no_filesystem, no_ids, no_layers}
use Rattle.oci_verify.proofs.layers.Layers.unpack.Goals as goal

pub returns-then-not-is_filesystem_image : goal.returns-then-not-is_filesystem_image
returns-then-not-is_filesystem_image g c =
    let self = c.args.self.now in
    let store = self.documents.now.store.now in
    let steady = g.S.Store.steady store in
    let contents = g.S.Store.contents store in
    let i = image_of c.args.image.now in
    yes steady contents (λ k. LayersUnpack self.asked.now k i)
    (over_each steady contents (λ k. LayersUnpack self.asked.now k i) (λ k. no_filesystem self.asked.now k i (sym c.is_filesystem_image.ensures ∙ c.if-not-is_filesystem_image.true)))

pub returns-in-Some-diff_ids : goal.returns-in-Some-diff_ids
returns-in-Some-diff_ids g c =
    let self = c.args.self.now in
    let store = self.documents.now.store.now in
    let steady = g.S.Store.steady store in
    let contents = g.S.Store.contents store in
    let i = image_of c.args.image.now in
    let ls = items_view c.in-Some.layers.now.items in
    let ids = items_view c.in-Some-diff_ids.ids.now.items in
    answers steady contents (λ k. EachPair (LayerUnpacks self.asked.now k) ls ids) (λ k. LayersUnpack self.asked.now k i) c.all_unpack.result
    (over_each steady contents _
    (λ k. image_pairs self.asked.now k i ls ids (sym c.is_filesystem_image.ensures ∙ c.if-not-is_filesystem_image.false) c.in-Some.ensures c.in-Some-diff_ids.ensures)) c.all_unpack.ensures

pub returns-in-None-diff_ids : goal.returns-in-None-diff_ids
returns-in-None-diff_ids g c =
    let self = c.args.self.now in
    let store = self.documents.now.store.now in
    let steady = g.S.Store.steady store in
    let contents = g.S.Store.contents store in
    let i = image_of c.args.image.now in
    yes steady contents (λ k. LayersUnpack self.asked.now k i)
    (over_each steady contents (λ k. LayersUnpack self.asked.now k i) (λ k. no_ids self.asked.now k i c.in-None-diff_ids.ensures))

pub returns-in-None : goal.returns-in-None
returns-in-None g c =
    let self = c.args.self.now in
    let store = self.documents.now.store.now in
    let steady = g.S.Store.steady store in
    let contents = g.S.Store.contents store in
    let i = image_of c.args.image.now in
    yes steady contents (λ k. LayersUnpack self.asked.now k i)
    (over_each steady contents (λ k. LayersUnpack self.asked.now k i) (λ k. no_layers self.asked.now k i c.in-None.ensures))
