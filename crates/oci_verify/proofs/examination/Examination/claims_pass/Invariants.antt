use Rattle.std.specs.Prelude.{◌↔◌, IsTrue}
use Rattle.oci_verify.specs.Images.{OverContents}
use Rattle.oci_verify.proofs.Passing.{PassBelow}
use Rattle.oci_verify.proofs.examination.Examination.claims_pass.Given as goal

abbrev pub invariant-each : goal.invariant-each
invariant-each g l =
    OverContents (g.S.Store.steady l.self.documents.store.now) (g.S.Store.contents l.self.documents.store.now)
    (λ k. IsTrue l.pass ↔ PassBelow (g.B.RuleBooks.rules l.self.books.now) l.self.asked.now l.self.documents.limit k l.self.walk.now.claims.items l.self.walk.now.faults.items l.place)
