use Rattle.std.proofs.Common.{◌≡◌, ◌+◌, [], ◌∷◌, ◌++◌, take, sym, ap, subst, ◌∙◌, arith}
use Rattle.std.proofs.lemmas.List.{take_more}
use Rattle.serde_json.specs.View.{view}
use Rattle.oci_layout.specs.Claims.{claim_of}
use Rattle.oci_layout.specs.Holds.{HoldsContent}
use Rattle.oci_layout.proofs.Descriptors.{mapped_more, stays_more}
use Rattle.oci_layout.proofs.descriptor.Claimed.add_each.Goals as goal

pub each-preserved : goal.each-preserved
each-preserved c =
    let items = c.deref-item-items.result.now in
    let i = c.each.item-index in
    let x = c.item-item.result in
    let more : take (i + 1) items ≡ take i items ++ x ∷ [] = take_more items i x (omega arith) ∙ ap (λ y. take i items ++ y ∷ []) (sym c.item-item.is) in
    let same : take (i + 1) c.args.items.now.items ≡ take i c.args.items.now.items ++ x ∷ [] =
    subst (λ l. take (i + 1) l ≡ take i l ++ x ∷ []) c.deref-item-items.ensures.value more in
    record {
      claims = mapped_more (λ v. claim_of c.args.role (view v)) c.args.self.now.claims.items c.each.self.claims.items c.add.new.self.claims.items c.args.items.now.items i x same
          c.each.invariant.claims c.in_ok-add.ensures.claims;
      held = stays_more (λ v. HoldsContent (view v)) c.args.self.now.held.items c.each.self.held.items c.add.new.self.held.items c.args.items.now.items i x same
          c.each.invariant.held c.in_ok-add.ensures.held;
    }
