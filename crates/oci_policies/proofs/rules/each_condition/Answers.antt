use Rattle.oci_policies.specs.Policies.{step_if}
use Rattle.oci_policies.specs.Steps.{step_view}
use Rattle.oci_policies.proofs.Lists.{each_next}
use Rattle.oci_policies.proofs.rules.each_condition.Goals as goal

pub loop-item-preserved : goal.loop-item-preserved
loop-item-preserved c = each_next step_if step_view c.deref-item-items.result.now c.loop-item.item-index c.item-item.result c.loop-item.found.items c.push.new.self.items c.in_ok-step_if.field-0 _ c.loop-item-test.true c.item-item.is c.in_ok-push.ensures.items c.in_ok-step_if.ensures c.loop-item.invariant
