-- The texts of the capabilities that are in, up to where the loop stands.
use Rattle.std.proofs.Common.{◌≡◌, List, take, take_all, map, sym, ap, ◌∙◌, arith}
use Rattle.std.specs.HashSet.{contains}
use Rattle.serde_json.specs.Data.{array, string}
use Rattle.serde_json.proofs.Views.{view-Array}
use Rattle.oci_model.specs.Value.{capability_texts}
use Rattle.oci_text.specs.Capability.{capability_name, all_capability}
use Rattle.oci_text.specs.declared.capability.Capability.{Capability}
use Rattle.oci_text.specs.CapabilitySets.{capability_eq}
use Rattle.oci_text.proofs.CapSets.{texts_with, texts_without, view_string}
use Rattle.oci_text.proofs.capabilities.CapsOciKindHashSetCapability.write.Goals as goal
use Rattle.oci_text.proofs.capabilities.CapsOciKindHashSetCapability.write.Goals.{then-contains+in_ok-from_str+in_ok-push, else-contains}

pub loop-capability-preserved : goal.loop-capability-preserved
loop-capability-preserved c =
    let p = contains capability_eq c.args.x.now in
    let i = c.loop-capability.invariant in
    elim c.if-contains.branch [
      | then-contains+in_ok-from_str+in_ok-push w ↦
          rw (w.written-is, w.in_ok-push.ensures.items)
          (texts_with p all_capability c.loop-capability.capability-index _ c.loop-capability.written.items _ c.loop-capability-test.true i (sym c.contains.ensures ∙ w.if-contains.true)
          (view_string w.in_ok-from_str.field-0 ∙ ap string (w.in_ok-from_str.ensures.ok ∙ w.json_name.ensures)))
      | else-contains w ↦ rw w.written-is (texts_without p all_capability c.loop-capability.capability-index _ c.loop-capability.written.items c.loop-capability-test.true i (sym c.contains.ensures ∙ w.if-contains.false))
    ]

pub returns-clause-ok : goal.returns-clause-ok
returns-clause-ok c =
    let p = contains capability_eq c.args.x.now in
    let full : take c.loop-capability.capability-index all_capability ≡ all_capability = take_all c.loop-capability.capability-index all_capability (omega arith) in
    view-Array c.loop-capability.written ∙ ap array (c.loop-capability.invariant ∙ ap (λ (cs : List Capability). capability_texts (map capability_name cs) (map p cs)) full)
