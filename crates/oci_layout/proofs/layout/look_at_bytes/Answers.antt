use Rattle.std.proofs.Common.{subst, sym, true≢false, IfSome}
use Rattle.oci_content.specs.Content.{Tells}
use Rattle.oci_layout.proofs.Looks.{bytes_verified, failed_known}
use Rattle.oci_layout.proofs.layout.look_at_bytes.Goals as goal

pub returns-in-Ok : goal.returns-in-Ok
returns-in-Ok g c = λ none.
    let known = g.S.Blob.Read.remaining c.args.blob.now in
    let claim = c.args.claim.now in
    bytes_verified (g.S.Store.steady c.args.store.now) known claim c.in-Ok.verdict c.judged.result none
    (subst (λ d. IfSome known (λ bytes. Tells d claim.size bytes c.in-Ok.verdict)) c.as_ref.ensures.value c.in-Ok.ensures.tells) c.judged.ensures

pub returns-in-Err : goal.returns-in-Err
returns-in-Err g c = λ none.
    failed_known (g.S.Store.steady c.args.store.now) (g.S.Blob.Read.remaining c.args.blob.now) c.args.claim.now c.unreadable.result.fault c.unreadable.result.claims.items
    (λ sure. true≢false (sym (c.in-Err.ensures.sure sure))) c.unreadable.ensures
