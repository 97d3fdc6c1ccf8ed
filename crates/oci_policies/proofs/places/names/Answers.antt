use Rattle.std.proofs.Common.{List, ℕ, Bor}
use Rattle.oci_policies.specs.Places.{name_of}
use Rattle.oci_policies.proofs.Lists.{all_next}
use Rattle.oci_policies.proofs.places.names.Goals as goal

pub loop-part-preserved : goal.loop-part-preserved
loop-part-preserved c = all_next name_of (λ (t : Bor (List ℕ)). t.now) (λ (t : Bor (List ℕ)). t.now) c.deref-part-items.result.now c.loop-part.part-index _ c.loop-part.names.items c.push.new.self.items c.in_ok-name.field-0 _ c.loop-part-test.true c.in_ok-push.ensures.items c.in_ok-name.ensures c.loop-part.invariant
