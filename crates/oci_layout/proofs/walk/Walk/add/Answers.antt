use Rattle.std.proofs.Common.{[], ◌∷◌, sym, subst}
use Rattle.std.specs.List.{Contains}
use Rattle.std.proofs.lemmas.List.Elements.{Contains-append_cases, Contains-push}
use Rattle.oci_layout.proofs.walk.Walk.add.Goals as goal

pub returns-clause-kept : goal.returns-clause-kept
returns-clause-kept c = (c.args.claim ∷ [], c.in_ok-push-2.ensures.items)

pub returns-clause-added : goal.returns-clause-added
returns-clause-added c =
    subst (λ l. Contains l c.args.claim) (sym c.in_ok-push-2.ensures.items) (Contains-push c.args.self.now.claims.items c.args.claim)

pub returns-clause-only : goal.returns-clause-only
returns-clause-only c = λ x there.
    Contains-append_cases c.args.self.now.claims.items (c.args.claim ∷ []) x (subst (λ l. Contains l x) c.in_ok-push-2.ensures.items there)
