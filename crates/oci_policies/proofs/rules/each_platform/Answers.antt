use Rattle.oci_rules.specs.Tables.{platform_of}
use Rattle.oci_policies.specs.Policies.{platform_in}
use Rattle.oci_policies.proofs.Lists.{each_next}
use Rattle.oci_policies.proofs.rules.each_platform.Goals as goal

pub loop-item-preserved : goal.loop-item-preserved
loop-item-preserved c = each_next platform_in platform_of c.deref-item-items.result.now c.loop-item.item-index c.item-item.result c.loop-item.found.items c.push.new.self.items c.in_ok-platform.field-0 _ c.loop-item-test.true c.item-item.is c.in_ok-push.ensures.items c.in_ok-platform.ensures c.loop-item.invariant
