use Rattle.std.proofs.Common.{◌≡◌, map, take, false}
use Rattle.oci_base.specs.Capabilities.{ascii_upper}
use Rattle.oci_base.specs.Names.{is_listed}
use Rattle.oci_text.specs.Capability.{capability_name}
use Rattle.oci_text.proofs.capability.of_any_case.Given as goal

abbrev pub invariant-loop-capability : goal.invariant-loop-capability
invariant-loop-capability l = is_listed (map capability_name (take l.capability-index l.all)) (map ascii_upper l.text) ≡ false
