use Rattle.std.proofs.Common.{List}
use Rattle.std.specs.Prelude.{◌++◌, Vec}
use Rattle.std.specs.declared.alloc.Global.{Global}
use Rattle.oci_rules.specs.declared.rule.Step.{Step}
use Rattle.oci_policies.specs.Places as places
use Rattle.oci_policies.specs.Policies.{rule_at}
use Rattle.oci_policies.specs.Steps.{head_view, steps_view, worded}
use Rattle.oci_policies.proofs.Lists.{mapped_next}
use Rattle.oci_policies.proofs.rules.add_places.Goals as goal

pub loop-place-preserved : goal.loop-place-preserved
loop-place-preserved c = mapped_next worded (λ (s : List places.Step). rule_at (head_view c.args.head.now) (s ++ steps_view c.args.rest.now.items)) (λ (s : Vec Step Global). steps_view s.items) c.deref-place-items.result.now c.loop-place.place-index c.place-item.result c.loop-place.found.items c.push.new.self.items c.in_ok-at_place.field-0 _ c.loop-place-test.true c.place-item.is c.in_ok-push.ensures.items c.in_ok-at_place.ensures.ok c.loop-place.invariant
