use Rattle.std.proofs.Common.{take}
use Rattle.std.specs.Prelude.{◌↔◌, IsTrue}
use Rattle.std.specs.List.{All}
use Rattle.oci_verify.specs.Images.{ClaimKeeps, OverContents}
use Rattle.oci_verify.proofs.images.Images.claims_agree.Given as goal

abbrev pub invariant-each : goal.invariant-each
invariant-each g l =
    OverContents (g.S.Store.steady l.self.documents.store.now) (g.S.Store.contents l.self.documents.store.now)
    (λ k. IsTrue l.agree ↔ All (ClaimKeeps l.self.asked.now l.self.documents.limit k) (take l.claim-index l.self.walk.now.claims.items))
