use Rattle.std.proofs.Common.{subst}
use Rattle.std.specs.Prelude.{option_map}
use Rattle.serde_json.specs.View.{view}
use Rattle.oci_verify.specs.Images.{IsFound, LeadsTo, OverContents}
use Rattle.oci_verify.proofs.Agreeing.{keeps_with}
use Rattle.oci_verify.proofs.images.Images.manifest_agrees.Goals as goal

pub returns : goal.returns
returns g c =
    let asked = c.args.self.now.asked.now in
    let limit = c.args.self.now.documents.limit in
    let store = c.args.self.now.documents.store.now in
    let steady = g.S.Store.steady store in
    let contents = g.S.Store.contents store in
    let d = view c.args.descriptor.now in
    let m = view c.args.manifest.now.value in
    let config = option_map (λ x. view x.value) c.in_ok-config.config in
    keeps_with steady contents asked limit d m config c.image_agrees.result
    (subst (λ o. OverContents steady contents (λ k. IsFound (LeadsTo limit k o) config)) c.get.ensures c.in_ok-config.ensures) c.image_agrees.ensures
