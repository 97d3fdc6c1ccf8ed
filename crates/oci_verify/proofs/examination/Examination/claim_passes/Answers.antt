use Rattle.std.proofs.Common.{None, IfOk, subst, sym}
use Rattle.std.specs.Prelude.{◌↔◌, IsTrue, option_map}
use Rattle.oci_verify.specs.Images.{IsFound, IsSmallKept, OverContents}
use Rattle.oci_verify.specs.Passing.{ClaimPasses, Passes}
use Rattle.oci_verify.proofs.Agreeing.{answers, over_map, yes}
use Rattle.oci_verify.proofs.Passing.{anywhere, content_passes, no_content}
use Rattle.oci_verify.proofs.examination.Examination.claim_passes.Goals as goal

pub returns-in-None : goal.returns-in-None
returns-in-None g c =
    let self = c.args.self.now in
    let books = g.B.RuleBooks.rules self.books.now in
    let store = self.documents.store.now in
    let steady = g.S.Store.steady store in
    let contents = g.S.Store.contents store in
    let claim = c.args.claim.now in
    let limit = self.documents.limit in
    let read = subst (λ t. OverContents steady contents (λ k. IsFound (IsSmallKept limit k t claim.size) (option_map (λ v. v.items) c.in_ok-bytes.field-0))) c.as_ref.ensures.value c.in_ok-bytes.ensures in
    let none = subst (λ o. OverContents steady contents (λ k. IsFound (IsSmallKept limit k claim.digest claim.size) (option_map (λ v. v.items) o))) c.in-None.is read in
    yes steady contents (λ k. ClaimPasses books self.asked.now limit k claim)
    (over_map steady contents (λ k. IsFound (IsSmallKept limit k claim.digest claim.size) None) (λ k. ClaimPasses books self.asked.now limit k claim)
    (λ k h. no_content books self.asked.now limit k claim h) none)

pub returns-in_ok-claims-in-Some-2 : goal.returns-in_ok-claims-in-Some-2
returns-in_ok-claims-in-Some-2 g c =
    let self = c.args.self.now in
    let books = g.B.RuleBooks.rules self.books.now in
    let store = self.documents.store.now in
    let steady = g.S.Store.steady store in
    let contents = g.S.Store.contents store in
    let claim = c.args.claim.now in
    let limit = self.documents.limit in
    let kind = c.in-Some.kind in
    let bytes = c.in-Some-2.bytes.items in
    let read = subst (λ t. OverContents steady contents (λ k. IsFound (IsSmallKept limit k t claim.size) (option_map (λ v. v.items) c.in_ok-bytes.field-0))) c.as_ref.ensures.value c.in_ok-bytes.ensures in
    let kept = subst (λ o. OverContents steady contents (λ k. IsFound (IsSmallKept limit k claim.digest claim.size) (option_map (λ v. v.items) o))) c.in-Some-2.is read in
    let passes = subst (λ l. IfOk c.document_passes.result (λ pass. IsTrue pass ↔ Passes books self.asked.now kind l)) c.as_slice.ensures.value c.document_passes.ensures in
    answers steady contents (λ k. Passes books self.asked.now kind bytes) (λ k. ClaimPasses books self.asked.now limit k claim) c.document_passes.result
    (over_map steady contents (λ k. IsSmallKept limit k claim.digest claim.size bytes) _ (λ k h. content_passes books self.asked.now limit k claim kind bytes (sym c.in-Some.ensures) h) kept)
    (anywhere steady contents (Passes books self.asked.now kind bytes) c.document_passes.result passes)
