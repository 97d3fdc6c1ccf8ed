use Rattle.std.proofs.Common.{subst, IfOk, IfSome}
use Rattle.oci_content.specs.Content.{Tells}
use Rattle.oci_layout.specs.Looks.{IsCut, IsJudgedBy, fault_of}
use Rattle.oci_layout.proofs.Looks.{document_verified}
use Rattle.oci_layout.proofs.layout.look_at_document.Goals as goal

pub returns-in-Ok : goal.returns-in-Ok
returns-in-Ok g c =
    let known = g.S.Blob.Read.remaining c.args.blob.now in
    let claim = c.args.claim.now in
    let v = c.verify_bytes-verdict.result in
    let bytes = c.in-Ok.bytes.items in
    document_verified (g.S.Store.steady c.args.store.now) known claim v bytes c.judged.result
    (subst (λ o. IfOk o (λ read. IfSome known (λ all. IsCut read.items all claim.size))) c.in-Ok.is c.in_ok-bytes.ensures.cut)
    (subst (λ l. Tells claim.digest claim.size l v) c.as_slice.ensures.value
    (subst (λ d. Tells d claim.size c.as_slice.result.now v) c.as_ref.ensures.value c.verify_bytes-verdict.ensures))
    (subst (λ l. IfOk c.judged.result (λ s. IsJudgedBy (fault_of v) claim.kind l s.fault s.claims.items)) c.as_slice-in-Ok.ensures.value c.judged.ensures)
