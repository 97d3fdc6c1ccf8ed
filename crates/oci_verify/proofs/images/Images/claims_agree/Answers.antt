use Rattle.std.proofs.Common.{◌≡◌, ◌+◌, [], ◌∷◌, ◌++◌, take, sym, ap, subst, ◌∙◌, arith}
use Rattle.std.specs.Prelude.{◌↔◌, IsTrue}
use Rattle.std.specs.List.{All}
use Rattle.std.proofs.lemmas.List.{take_all, take_more}
use Rattle.oci_verify.specs.Images.{ClaimKeeps, OverContents}
use Rattle.oci_verify.proofs.Agreeing.{each_more, none_yet}
use Rattle.oci_verify.proofs.images.Images.claims_agree.Goals as goal

pub each-init : goal.each-init
each-init g c =
    let asked = c.args.self.now.asked.now in
    let limit = c.args.self.now.documents.limit in
    let store = c.args.self.now.documents.store.now in
    none_yet (g.S.Store.steady store) (g.S.Store.contents store) (ClaimKeeps asked limit) c.args.self.now.walk.now.claims.items

pub each-preserved : goal.each-preserved
each-preserved g c =
    let asked = c.args.self.now.asked.now in
    let limit = c.args.self.now.documents.limit in
    let store = c.args.self.now.documents.store.now in
    let items = c.deref-claim-items.result.now in
    let i = c.each.claim-index in
    let x = c.claim-item.result in
    let more : take (i + 1) items ≡ take i items ++ x ∷ [] = take_more items i x (omega arith) ∙ ap (λ y. take i items ++ y ∷ []) (sym c.claim-item.is) in
    let all = c.args.self.now.walk.now.claims.items in
    let same : take (i + 1) all ≡ take i all ++ x ∷ [] = subst (λ l. take (i + 1) l ≡ take i l ++ x ∷ []) c.deref-claim-items.ensures.value more in
    each_more (g.S.Store.steady store) (g.S.Store.contents store) (ClaimKeeps asked limit) all i x c.each.agree c.in_ok-of_claim.of_claim c.are_both-agree.result same c.are_both-agree.ensures
    c.each.invariant c.in_ok-of_claim.ensures

pub returns : goal.returns
returns g c =
    let asked = c.args.self.now.asked.now in
    let limit = c.args.self.now.documents.limit in
    let store = c.args.self.now.documents.store.now in
    let items = c.deref-claim-items.result.now in
    let all : take c.each.claim-index items ≡ items = take_all c.each.claim-index items (omega arith) in
    let same = subst (λ l. take c.each.claim-index l ≡ l) c.deref-claim-items.ensures.value all in
    subst (λ l. OverContents (g.S.Store.steady store) (g.S.Store.contents store) (λ k. IsTrue c.each.agree ↔ All (ClaimKeeps asked limit k) l)) same c.each.invariant
