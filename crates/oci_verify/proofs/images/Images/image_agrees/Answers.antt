use Rattle.std.proofs.Common.{subst}
use Rattle.std.specs.Prelude.{◌↔◌, option_map, IsTrue}
use Rattle.serde_json.specs.View.{view}
use Rattle.oci_agreement.specs.Images.{Image}
use Rattle.oci_verify.specs.Images.{IsFine, Keeps, OverContents}
use Rattle.oci_verify.specs.Layers.{LayersUnpack}
use Rattle.oci_verify.proofs.Agreeing.{both_keep, image_with, over_each}
use Rattle.oci_verify.proofs.images.Images.image_agrees.Goals as goal

pub returns : goal.returns
returns g c =
    let asked = c.args.self.now.asked.now in
    let store = c.args.self.now.documents.store.now in
    let steady = g.S.Store.steady store in
    let contents = g.S.Store.contents store in
    let d = view c.args.descriptor.now in
    let m = view c.args.texts.now.manifest.now.value in
    let i : Image = image_with d m (option_map (λ v. view v.now) c.value_of.result) in
    let agree = c.in_ok-agree.agree in
    subst (λ o. OverContents steady contents (λ k. IsTrue c.are_both.result ↔ IsFine asked k (image_with d m o))) c.value_of.ensures
    (both_keep steady contents (λ k. Keeps asked i) (λ k. LayersUnpack asked k i) agree c.in_ok-unpack.unpack c.are_both.result c.are_both.ensures
    (over_each steady contents (λ k. IsTrue agree ↔ Keeps asked i) (λ k. c.in_ok-agree.ensures)) c.in_ok-unpack.ensures)
