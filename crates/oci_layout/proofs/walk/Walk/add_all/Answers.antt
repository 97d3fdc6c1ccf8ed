use Rattle.std.proofs.Common.{◌≡◌, [], ◌∷◌, ◌++◌, rules, sym, ◌∙◌, append_assoc, ap, subst, arith, inl, refl}
use Rattle.oci_layout.specs.Walk.{IsWithin, IsOnly}
use Rattle.oci_layout.proofs.Walks.{extends_same, extends_more, none_within, drained, added_one, only_one}
use Rattle.oci_layout.proofs.walk.Walk.add_all.Goals as goal

pub more-init : goal.more-init
more-init c = record {
  whole = search rules;
  kept = extends_same _;
  added = none_within _;
  only = λ x h. inl h;
  faults = refl;
}

pub more-preserved : goal.more-preserved
more-preserved c =
    let steps = c.in-Some.ensures.steps in
    let add = c.in_ok-add.ensures in
    record {
      whole = c.more.invariant.whole ∙ ap (λ l. c.more.yielded ++ l) steps.0 ∙ sym (append_assoc c.more.yielded (c.in-Some.claim ∷ []) c.next.new.self.rest.items);
      kept = extends_more c.args.self.now.claims.items c.more.self.claims.items c.add.new.self.claims.items c.more.invariant.kept add.kept;
      added = added_one c.more.self.claims.items c.add.new.self.claims.items c.more.yielded c.in-Some.claim add.kept add.added c.more.invariant.added;
      only = only_one c.args.self.now.claims.items c.more.self.claims.items c.add.new.self.claims.items c.more.yielded c.in-Some.claim add.only c.more.invariant.only;
      faults = add.faults ∙ c.more.invariant.faults;
    }

pub returns-clause-added : goal.returns-clause-added
returns-clause-added c =
    let steps = c.in-None.ensures.steps in
    let ok = c.more.claim-iterator.rest.ok in
    let all : c.args.more.items ≡ c.more.yielded = drained c.more.yielded c.more.claim-iterator.rest.items c.args.more.items c.more.invariant.whole (omega arith) in
    subst (λ l. IsWithin l c.more.self.claims.items) (sym all) c.more.invariant.added

pub returns-clause-only : goal.returns-clause-only
returns-clause-only c =
    let steps = c.in-None.ensures.steps in
    let ok = c.more.claim-iterator.rest.ok in
    let all : c.args.more.items ≡ c.more.yielded = drained c.more.yielded c.more.claim-iterator.rest.items c.args.more.items c.more.invariant.whole (omega arith) in
    subst (λ l. IsOnly c.more.self.claims.items c.args.self.now.claims.items l) (sym all) c.more.invariant.only
