use Rattle.std.proofs.Common.{subst}
use Rattle.oci_layout.specs.Looks.{Gives}
use Rattle.oci_layout.proofs.Looks.{missing_shown, unreadable_shown, shown_ok}
use Rattle.oci_layout.proofs.layout.LayoutShown.look.Goals as goal

pub returns-in-Missing : goal.returns-in-Missing
returns-in-Missing g c =
    let contents = g.S.Store.contents c.args.self.now.store.now in
    let steady = g.S.Store.steady c.args.self.now.store.now in
    let remaining = g.S.Blob.Read.remaining in
    missing_shown remaining c.args.self.now.quick steady c.args.self.now.limit contents c.args.claim.now c.of_fault.result.fault c.of_fault.result.claims.items
    (subst (λ o. Gives remaining steady contents c.args.claim.now.digest o) c.in-Missing.is c.in_ok-open.ensures) c.of_fault.ensures

pub returns-in-Unreadable : goal.returns-in-Unreadable
returns-in-Unreadable g c =
    let contents = g.S.Store.contents c.args.self.now.store.now in
    let steady = g.S.Store.steady c.args.self.now.store.now in
    let remaining = g.S.Blob.Read.remaining in
    unreadable_shown remaining c.args.self.now.quick steady c.args.self.now.limit contents c.args.claim.now c.unreadable.result.fault c.unreadable.result.claims.items c.in-Unreadable.fault
    (subst (λ o. Gives remaining steady contents c.args.claim.now.digest o) c.in-Unreadable.is c.in_ok-open.ensures) c.unreadable.ensures

pub returns-in-Content : goal.returns-in-Content
returns-in-Content g c =
    let contents = g.S.Store.contents c.args.self.now.store.now in
    let steady = g.S.Store.steady c.args.self.now.store.now in
    let remaining = g.S.Blob.Read.remaining in
    shown_ok remaining c.args.self.now.quick steady c.args.self.now.limit contents c.args.claim.now c.in-Content.blob c.in-Content.size c.look_into.result
    (subst (λ o. Gives remaining steady contents c.args.claim.now.digest o) c.in-Content.is c.in_ok-open.ensures) c.look_into.ensures
