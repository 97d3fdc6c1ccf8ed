use Rattle.std.proofs.Common.{sym, ◌∙◌, true≢false}
use Rattle.serde_json.specs.View.{view}
use Rattle.oci_agreement.specs.Descriptors.{mention_of}
use Rattle.oci_verify.specs.Layers.{ContentUnpacks, LayerUnpacks}
use Rattle.oci_verify.proofs.Agreeing.{answers, over_each, yes}
use Rattle.oci_verify.proofs.Unpacking.{layer_content, layer_other, layer_silent}
use Rattle.oci_verify.proofs.layers.Layers.layer_unpacks.Goals as goal

pub returns-else-is_gzip_type : goal.returns-else-is_gzip_type
returns-else-is_gzip_type g c =
    let self = c.args.self.now in
    let store = self.documents.now.store.now in
    let steady = g.S.Store.steady store in
    let contents = g.S.Store.contents store in
    let layer = view c.args.layer.now in
    let id = view c.args.id.now in
    yes steady contents (λ k. LayerUnpacks self.asked.now k layer id)
    (over_each steady contents (λ k. LayerUnpacks self.asked.now k layer id)
    (λ k. layer_other self.asked.now k layer id (mention_of c.in-Some.said) (sym c.in-Some.ensures) (λ gzip. true≢false (sym (c.is_gzip_type.ensures.1 gzip) ∙ c.if-is_gzip_type.false))))

pub returns-then-is_gzip_type : goal.returns-then-is_gzip_type
returns-then-is_gzip_type g c =
    let self = c.args.self.now in
    let store = self.documents.now.store.now in
    let steady = g.S.Store.steady store in
    let contents = g.S.Store.contents store in
    let layer = view c.args.layer.now in
    let id = view c.args.id.now in
    let said = mention_of c.in-Some.said in
    answers steady contents (λ k. ContentUnpacks self.asked.now k said id) (λ k. LayerUnpacks self.asked.now k layer id) c.content_unpacks.result
    (over_each steady contents _ (λ k. layer_content self.asked.now k layer id said (sym c.in-Some.ensures) (c.is_gzip_type.ensures.0 c.if-is_gzip_type.true))) c.content_unpacks.ensures

pub returns-in-None : goal.returns-in-None
returns-in-None g c =
    let self = c.args.self.now in
    let store = self.documents.now.store.now in
    let steady = g.S.Store.steady store in
    let contents = g.S.Store.contents store in
    let layer = view c.args.layer.now in
    let id = view c.args.id.now in
    yes steady contents (λ k. LayerUnpacks self.asked.now k layer id)
    (over_each steady contents (λ k. LayerUnpacks self.asked.now k layer id) (λ k. layer_silent self.asked.now k layer id (sym c.in-None.ensures)))
