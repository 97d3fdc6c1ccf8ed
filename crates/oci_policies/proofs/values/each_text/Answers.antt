use Rattle.std.proofs.Common.{List, ℕ, Bor}
use Rattle.toml.specs.Data.{as_str}
use Rattle.oci_policies.proofs.Lists.{each_next}
use Rattle.oci_policies.proofs.values.each_text.Goals as goal

pub loop-item-preserved : goal.loop-item-preserved
loop-item-preserved c = each_next as_str (λ (t : Bor (List ℕ)). t.now) c.deref-item-items.result.now c.loop-item.item-index c.item-item.result c.loop-item.found.items c.push.new.self.items c.in_ok-kept_text.field-0 _ c.loop-item-test.true c.item-item.is c.in_ok-push.ensures.items c.in_ok-kept_text.ensures c.loop-item.invariant
