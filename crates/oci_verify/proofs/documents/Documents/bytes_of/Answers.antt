use Rattle.std.proofs.Common.{subst}
use Rattle.std.specs.Prelude.{option_map}
use Rattle.oci_layout.specs.Looks.{Gives}
use Rattle.oci_layout.specs.declared.store.Opened.TheVariants.{Content, Unreadable}
use Rattle.oci_verify.proofs.Rereading.{kept_missing, kept_unreadable, kept_read}
use Rattle.oci_verify.proofs.documents.Documents.bytes_of.Goals as goal

pub returns-in-Missing : goal.returns-in-Missing
returns-in-Missing g c =
    let store = c.args.self.now.store.now in
    let steady = g.S.Store.steady store in
    let contents = g.S.Store.contents store in
    let remaining = g.S.Blob.Read.remaining in
    kept_missing remaining steady contents c.args.digest.now c.args.size
    (subst (λ d. Gives remaining steady contents d _) c.in_ok-key.ensures.ok (subst (λ o. Gives remaining steady contents c.in_ok-key.key o) c.in-Missing.is c.in_ok-open.ensures))

pub returns-in-Unreadable : goal.returns-in-Unreadable
returns-in-Unreadable g c =
    let store = c.args.self.now.store.now in
    let steady = g.S.Store.steady store in
    let contents = g.S.Store.contents store in
    let remaining = g.S.Blob.Read.remaining in
    kept_unreadable remaining steady contents c.args.digest.now c.args.size c.in-Unreadable.field-0
    (subst (λ d. Gives remaining steady contents d (Unreadable c.in-Unreadable.field-0)) c.in_ok-key.ensures.ok (subst (λ o. Gives remaining steady contents c.in_ok-key.key o) c.in-Unreadable.is c.in_ok-open.ensures))

pub returns : goal.returns
returns g c =
    let store = c.args.self.now.store.now in
    let steady = g.S.Store.steady store in
    let contents = g.S.Store.contents store in
    let remaining = g.S.Blob.Read.remaining in
    let blob = c.in-Content.blob in
    let known = c.in-Content.field-1 in
    kept_read remaining steady contents c.args.digest.now c.args.size blob known (option_map (λ v. v.items) c.in_ok-read-in-Content.field-0)
    (subst (λ d. Gives remaining steady contents d (Content blob known)) c.in_ok-key.ensures.ok (subst (λ o. Gives remaining steady contents c.in_ok-key.key o) c.in-Content.is c.in_ok-open.ensures))
    c.in_ok-read-in-Content.ensures
