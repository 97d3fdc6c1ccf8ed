use Rattle.std.proofs.Common.{None, sym, subst, ◌∙◌}
use Rattle.std.specs.Prelude.{option_map}
use Rattle.serde_json.specs.View.{view}
use Rattle.oci_verify.specs.Images.{AllKeep, ClaimKeeps, IsFound, IsValueOf, OverContents}
use Rattle.oci_verify.proofs.Agreeing.{answers, claim_keeps, no_claimed, no_index, over_each, over_map, yes}
use Rattle.oci_verify.proofs.images.Images.claim_agrees.Goals as goal

pub returns-then-not-is_index : goal.returns-then-not-is_index
returns-then-not-is_index g c =
    let asked = c.args.self.now.asked.now in
    let limit = c.args.self.now.documents.limit in
    let store = c.args.self.now.documents.store.now in
    let steady = g.S.Store.steady store in
    let contents = g.S.Store.contents store in
    let claim = c.args.claim.now in
    yes steady contents (λ k. ClaimKeeps asked limit k claim)
    (over_each steady contents (λ k. ClaimKeeps asked limit k claim) (λ k. no_index asked limit k claim (sym c.is_index.ensures ∙ c.if-not-is_index.true)))

pub returns-in-Some : goal.returns-in-Some
returns-in-Some g c =
    let asked = c.args.self.now.asked.now in
    let limit = c.args.self.now.documents.limit in
    let store = c.args.self.now.documents.store.now in
    let steady = g.S.Store.steady store in
    let contents = g.S.Store.contents store in
    let claim = c.args.claim.now in
    let d = view c.in-Some.index.value in
    let is = sym c.is_index.ensures ∙ c.if-not-is_index.false in
    let read = subst (λ t. OverContents steady contents (λ k. IsFound (IsValueOf limit k t claim.size) (option_map (λ x. view x.value) c.in_ok-index.field-0))) c.as_ref.ensures.value c.in_ok-index.ensures in
    let found = subst (λ o. OverContents steady contents (λ k. IsFound (IsValueOf limit k claim.digest claim.size) (option_map (λ x. view x.value) o))) c.in-Some.is read in
    answers steady contents (λ k. AllKeep asked limit k d) (λ k. ClaimKeeps asked limit k claim) c.index_agrees.result
    (over_map steady contents (λ k. IsValueOf limit k claim.digest claim.size d) _ (λ k value. claim_keeps asked limit k claim d is value) found) c.index_agrees.ensures

pub returns-in-None : goal.returns-in-None
returns-in-None g c =
    let asked = c.args.self.now.asked.now in
    let limit = c.args.self.now.documents.limit in
    let store = c.args.self.now.documents.store.now in
    let steady = g.S.Store.steady store in
    let contents = g.S.Store.contents store in
    let claim = c.args.claim.now in
    let read = subst (λ t. OverContents steady contents (λ k. IsFound (IsValueOf limit k t claim.size) (option_map (λ x. view x.value) c.in_ok-index.field-0))) c.as_ref.ensures.value c.in_ok-index.ensures in
    let none = subst (λ o. OverContents steady contents (λ k. IsFound (IsValueOf limit k claim.digest claim.size) (option_map (λ x. view x.value) o))) c.in-None.is read in
    yes steady contents (λ k. ClaimKeeps asked limit k claim)
    (over_map steady contents (λ k. IsFound (IsValueOf limit k claim.digest claim.size) None) (λ k. ClaimKeeps asked limit k claim) (λ k h. no_claimed asked limit k claim h) none)
