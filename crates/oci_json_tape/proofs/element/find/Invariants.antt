use Rattle.std.proofs.Common.{length}
use Rattle.serde_json.specs.Data.{Data}
use Rattle.oci_json_tape.specs.Elements.{BeginsWithData}
use Rattle.oci_json_tape.proofs.Walks.{FoundSoFar}
use Rattle.oci_json_tape.proofs.element.find.Given as goal

abbrev pub invariant-each_member : goal.invariant-each_member
invariant-each_member l = (d : Data) → BeginsWithData l.fn.element d → FoundSoFar l.name d l.rest l.found

abbrev pub decreases-each_member : goal.decreases-each_member
decreases-each_member l = length l.rest
