use Rattle.std.proofs.Common.{sym, subst, ◌∙◌, true≢false, arith}
use Rattle.std.specs.Prelude.{option_map}
use Rattle.oci_verify.specs.Images.{IsFound, OverContents}
use Rattle.oci_verify.specs.Kept.{IsKept}
use Rattle.oci_verify.proofs.Rereading.{value_large, value_unnamed, value_missing, value_read}
use Rattle.oci_verify.proofs.documents.Documents.of_content.Goals as goal

pub returns-then-size-self : goal.returns-then-size-self
returns-then-size-self g c =
    let store = c.args.self.now.store.now in
    value_large (g.S.Store.steady store) (g.S.Store.contents store) c.args.self.now.limit c.args.digest.now c.args.size (omega arith)

pub returns-then-not-is_digest : goal.returns-then-not-is_digest
returns-then-not-is_digest g c =
    let store = c.args.self.now.store.now in
    value_unnamed (g.S.Store.steady store) (g.S.Store.contents store) c.args.self.now.limit c.args.digest.now c.args.size
    (λ named. true≢false (sym (c.is_digest.ensures.1 named) ∙ c.if-not-is_digest.true))

pub returns-in-Some : goal.returns-in-Some
returns-in-Some g c =
    let store = c.args.self.now.store.now in
    let steady = g.S.Store.steady store in
    let contents = g.S.Store.contents store in
    let digest = c.args.digest.now in
    let size = c.args.size in
    value_read steady contents c.args.self.now.limit digest size c.in-Some.bytes.items c.document_in.result (c.is_digest.ensures.0 c.if-not-is_digest.false) (omega arith)
    (subst (λ o. OverContents steady contents (λ k. IsFound (IsKept k digest size) (option_map (λ v. v.items) o))) c.in-Some.is c.in_ok-bytes.ensures) c.document_in.ensures

pub returns-in-None : goal.returns-in-None
returns-in-None g c =
    let store = c.args.self.now.store.now in
    let steady = g.S.Store.steady store in
    let contents = g.S.Store.contents store in
    let digest = c.args.digest.now in
    let size = c.args.size in
    value_missing steady contents c.args.self.now.limit digest size
    (subst (λ o. OverContents steady contents (λ k. IsFound (IsKept k digest size) (option_map (λ v. v.items) o))) c.in-None.is c.in_ok-bytes.ensures)
