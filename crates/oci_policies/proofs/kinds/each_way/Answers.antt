use Rattle.std.proofs.Common.{List, ℕ, Bor}
use Rattle.oci_rules.specs.Tables.{texts_of}
use Rattle.oci_policies.specs.Places.{way_in}
use Rattle.oci_policies.proofs.Lists.{each_next}
use Rattle.oci_policies.proofs.kinds.each_way.Goals as goal

pub loop-item-preserved : goal.loop-item-preserved
loop-item-preserved c = each_next way_in (λ (w : Bor (List (Bor (List ℕ)))). texts_of w.now) c.deref-item-items.result.now c.loop-item.item-index c.item-item.result c.loop-item.found.items c.push.new.self.items c.in_ok-way.field-0 _ c.loop-item-test.true c.item-item.is c.in_ok-push.ensures.items c.in_ok-way.ensures c.loop-item.invariant
