use Rattle.std.proofs.Common.{drop}
use Rattle.serde_json.specs.Data.{Data}
use Rattle.oci_json_tape.specs.Elements.{BeginsWithData}
use Rattle.oci_schema.proofs.NormalSets.{SetSoFar}
use Rattle.oci_schema.proofs.bytes.capabilities.is_normal_set.Given as goal

abbrev pub invariant-loop-capability : goal.invariant-loop-capability
invariant-loop-capability l = (d : Data) → BeginsWithData l.fn.element d → SetSoFar d (drop l.capability-index l.capability-items) l.next l.rest
