-- A set without a capability has all others.
use Rattle.std.proofs.Common.{◌≡◌, Some, sym, subst, ap, ◌∙◌}
use Rattle.std.specs.Prelude.{◌↔◌, IsTrue}
use Rattle.std.specs.HashSet.{contains}
use Rattle.std.specs.List.{list_any}
use Rattle.oci_spec.specs.CapabilitySets.{capability_eq}
use Rattle.oci_examples.specs.Policy.{HasOthers, IsIn}
use Rattle.oci_examples.proofs.Clones.{same_items}
use Rattle.oci_examples.proofs.tighten_bundle.without.Goals as goal

pub returns-clause-others : goal.returns-clause-others
unfolding HasOthers
returns-clause-others c q h =
    let old = c.in-Some.set in
    let new = c.remove.new.self in
    let kept : c.in_ok-kept.kept.keys ≡ c.in-Some.set.keys = same_items c.in-Some.set.keys c.in_ok-kept.kept.keys c.in_ok-kept.ensures.cases in
    let same : contains capability_eq new q ≡ contains capability_eq old q = c.remove.ensures.updates.2 q h ∙ ap (list_any (capability_eq q)) kept in
    let is : c.args.set.now ≡ Some old = cc in
    subst (λ s. IsIn q (Some new) ↔ IsIn q s) (sym is) (λ t. subst IsTrue same t, λ t. subst IsTrue (sym same) t)
