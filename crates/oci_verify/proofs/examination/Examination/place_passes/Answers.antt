use Rattle.oci_verify.specs.Passing.{ClaimPasses, PlacePasses}
use Rattle.oci_verify.proofs.Agreeing.{answers, over_each, yes}
use Rattle.oci_verify.proofs.Passing.{no_claim, place_passes}
use Rattle.oci_verify.proofs.examination.Examination.place_passes.Goals as goal

pub returns-in-Some : goal.returns-in-Some
returns-in-Some g c =
    let self = c.args.self.now in
    let books = g.B.RuleBooks.rules self.books.now in
    let store = self.documents.store.now in
    let steady = g.S.Store.steady store in
    let contents = g.S.Store.contents store in
    let claims = self.walk.now.claims.items in
    let faults = self.walk.now.faults.items in
    answers steady contents (λ k. ClaimPasses books self.asked.now self.documents.limit k c.in-Some.claim.now)
    (λ k. PlacePasses books self.asked.now self.documents.limit k claims faults c.args.place) c.claim_passes.result
    (over_each steady contents _ (λ k. place_passes books self.asked.now self.documents.limit k claims faults c.args.place c.in-Some.claim.now c.in-Some.ensures)) c.claim_passes.ensures

pub returns-in-None : goal.returns-in-None
returns-in-None g c =
    let self = c.args.self.now in
    let books = g.B.RuleBooks.rules self.books.now in
    let store = self.documents.store.now in
    let steady = g.S.Store.steady store in
    let contents = g.S.Store.contents store in
    let claims = self.walk.now.claims.items in
    let faults = self.walk.now.faults.items in
    yes steady contents (λ k. PlacePasses books self.asked.now self.documents.limit k claims faults c.args.place)
    (over_each steady contents (λ k. PlacePasses books self.asked.now self.documents.limit k claims faults c.args.place)
    (λ k. no_claim books self.asked.now self.documents.limit k claims faults c.args.place c.in-None.ensures))
