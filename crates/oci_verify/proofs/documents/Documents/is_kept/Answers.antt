use Rattle.std.proofs.Common.{subst}
use Rattle.oci_layout.specs.Looks.{Gives}
use Rattle.oci_layout.specs.declared.store.Opened.TheVariants.{Content}
use Rattle.oci_verify.proofs.Rereading.{there_read}
use Rattle.oci_verify.proofs.documents.Documents.is_kept.Goals as goal

pub returns-in-Ok : goal.returns-in-Ok
returns-in-Ok g c =
    let store = c.args.self.now.store.now in
    let steady = g.S.Store.steady store in
    let contents = g.S.Store.contents store in
    let remaining = g.S.Blob.Read.remaining in
    let blob = c.in-Content.blob in
    let known = c.in-Content.field-1 in
    there_read remaining steady contents c.args.digest.now c.args.size blob known c.in-Ok.verdict c.is_same.result
    (subst (λ d. Gives remaining steady contents d (Content blob known)) c.in_ok-key.ensures.ok (subst (λ o. Gives remaining steady contents c.in_ok-key.key o) c.in-Content.is c.in_ok-open.ensures))
    c.in-Ok.ensures.tells c.is_same.ensures
