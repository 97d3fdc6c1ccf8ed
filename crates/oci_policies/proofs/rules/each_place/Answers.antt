use Rattle.std.specs.Prelude.{Vec}
use Rattle.std.specs.declared.alloc.Global.{Global}
use Rattle.oci_rules.specs.declared.rule.Step.{Step}
use Rattle.oci_policies.specs.Places.{steps_in}
use Rattle.oci_policies.specs.Steps.{steps_view}
use Rattle.oci_policies.proofs.Lists.{each_next}
use Rattle.oci_policies.proofs.rules.each_place.Goals as goal

pub loop-item-preserved : goal.loop-item-preserved
loop-item-preserved c = each_next steps_in (λ (s : Vec Step Global). steps_view s.items) c.deref-item-items.result.now c.loop-item.item-index c.item-item.result c.loop-item.found.items c.push.new.self.items c.in_ok-steps.field-0 _ c.loop-item-test.true c.item-item.is c.in_ok-push.ensures.items c.in_ok-steps.ensures c.loop-item.invariant
