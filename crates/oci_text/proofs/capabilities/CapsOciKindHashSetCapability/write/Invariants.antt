use Rattle.std.proofs.Common.{◌≡◌, take, map}
use Rattle.std.specs.HashSet.{contains}
use Rattle.serde_json.specs.View.{items_view}
use Rattle.oci_text.specs.Capability.{capability_name}
use Rattle.oci_text.specs.CapabilitySets.{capability_eq}
use Rattle.oci_model.specs.Value.{capability_texts}
use Rattle.oci_text.proofs.capabilities.CapsOciKindHashSetCapability.write.Given as goal

abbrev pub invariant-loop-capability : goal.invariant-loop-capability
invariant-loop-capability l =
    let done = take l.capability-index l.capability-items in
    items_view l.written.items ≡ capability_texts (map capability_name done) (map (contains capability_eq l.x) done)
