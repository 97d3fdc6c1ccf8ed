use Rattle.std.proofs.Common.{◌≡◌, ◌+◌, ◌∷◌, [], ◌++◌, take, take_all, refl, subst, ◌∙◌, arith}
use Rattle.std.proofs.lemmas.List.{take_more}
use Rattle.serde_json.specs.View.{items_view}
use Rattle.oci_text.specs.Capability.{capability_table}
use Rattle.oci_model.specs.Means.{AreCapabilities}
use Rattle.oci_model.proofs.Lists.{exits}
use Rattle.oci_text.proofs.CapSets.{IsSetOfItems, set_refused, are_more, set_more, set_means, no_array}
use Rattle.oci_text.proofs.capabilities.read_set.Goals as goal

pub returns-in_err-read_capability-in-Some-clause-err : goal.returns-in_err-read_capability-in-Some-clause-err
returns-in_err-read_capability-in-Some-clause-err c =
    exits _ _ _ c.from_residual.ensures.1 (λ h.
    set_refused _ c.in-Some.items.now.items _ _ _ c.in-Some.ensures c.deref-item-items.ensures.value c.loop-item-test.true c.item-item.is (c.in_err-read_capability-in-Some.ensures.err h))

pub loop-item-preserved : goal.loop-item-preserved
loop-item-preserved c =
    let vs = c.deref-item-items.result.now in
    let v = c.item-item.result in
    let done = take c.loop-item.item-index vs in
    let k = c.in_ok-read_capability-in-Some.field-0 in
    let is = c.in_ok-read_capability-in-Some.ensures.ok in
    let i = c.loop-item.invariant in
    let more : take (c.loop-item.item-index + 1) vs ≡ done ++ v ∷ [] = rw (take_more vs c.loop-item.item-index v c.loop-item-test.true, ← c.item-item.is) refl in
    record {
      are = rw more (are_more done v k i.are is);
      set = rw more (set_more done v c.loop-item.read c.insert.new.self k i.set is c.in_ok-insert-in-Some.ensures.updates);
    }

pub returns-after-loop-item-clause-ok : goal.returns-after-loop-item-clause-ok
returns-after-loop-item-clause-ok c =
    let vs = c.deref-item-items.result.now in
    let i = c.loop-item.invariant in
    let all : take c.loop-item.item-index vs ≡ c.in-Some.items.now.items = take_all c.loop-item.item-index vs (omega arith) ∙ c.deref-item-items.ensures.value in
    set_means c.in-Some.items.now.items c.loop-item.read _ c.in-Some.ensures (subst (λ ws. AreCapabilities capability_table (items_view ws)) all i.are) (subst (λ ws. IsSetOfItems ws c.loop-item.read) all i.set)

pub returns-in-None-clause-err : goal.returns-in-None-clause-err
returns-in-None-clause-err c = λ h. no_array _ c.in-None.ensures
