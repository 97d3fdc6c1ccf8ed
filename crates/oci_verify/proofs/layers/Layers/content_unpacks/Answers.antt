use Rattle.std.proofs.Common.{IfSome, subst}
use Rattle.serde_json.specs.View.{view}
use Rattle.oci_agreement.specs.Descriptors.{mention_of}
use Rattle.oci_verify.specs.Images.{OverContents}
use Rattle.oci_verify.specs.Layers.{IsWrong}
use Rattle.oci_verify.proofs.Unpacking.{content_absent, content_right, content_wrong}
use Rattle.oci_verify.proofs.layers.Layers.content_unpacks.Goals as goal

pub returns-then-branch : goal.returns-then-branch
returns-then-branch g c =
    let store = c.args.self.now.documents.now.store.now in
    let steady = g.S.Store.steady store in
    let contents = g.S.Store.contents store in
    let said = mention_of c.args.layer.now.said in
    let id = view c.args.layer.now.id.now in
    content_wrong steady contents c.args.self.now.asked.now said id c.in-Some.wrong c.in_ok-is_kept-in-Some.field-0 c.may_be.result
    (subst (λ o. OverContents steady contents (λ k. IfSome (k said.digest) (λ bytes. IsWrong bytes id o))) c.in-Some.is c.in_ok-wrong.ensures)
    c.in_ok-is_kept-in-Some.ensures c.if-branch.true c.may_be.ensures

pub returns-else-branch : goal.returns-else-branch
returns-else-branch g c =
    let store = c.args.self.now.documents.now.store.now in
    content_absent (g.S.Store.steady store) (g.S.Store.contents store) c.args.self.now.asked.now (mention_of c.args.layer.now.said) (view c.args.layer.now.id.now) c.in_ok-is_kept-in-Some.field-0
    c.in_ok-is_kept-in-Some.ensures c.if-branch.false

pub returns-in-None : goal.returns-in-None
returns-in-None g c =
    let store = c.args.self.now.documents.now.store.now in
    let steady = g.S.Store.steady store in
    let contents = g.S.Store.contents store in
    let said = mention_of c.args.layer.now.said in
    let id = view c.args.layer.now.id.now in
    content_right steady contents c.args.self.now.asked.now said id (subst (λ o. OverContents steady contents (λ k. IfSome (k said.digest) (λ bytes. IsWrong bytes id o))) c.in-None.is c.in_ok-wrong.ensures)
