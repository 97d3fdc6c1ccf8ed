use Rattle.std.proofs.Common.{List, ℕ, Bor}
use Rattle.oci_policies.specs.Places.{step_of}
use Rattle.oci_policies.specs.Steps.{step_view}
use Rattle.oci_policies.proofs.Lists.{all_next}
use Rattle.oci_policies.proofs.places.each_step.Goals as goal

pub loop-part-preserved : goal.loop-part-preserved
loop-part-preserved c = all_next step_of (λ (t : Bor (List ℕ)). t.now) step_view c.deref-part-items.result.now c.loop-part.part-index _ c.loop-part.steps.items c.push.new.self.items c.in_ok-step.field-0 _ c.loop-part-test.true c.in_ok-push.ensures.items c.in_ok-step.ensures c.loop-part.invariant
