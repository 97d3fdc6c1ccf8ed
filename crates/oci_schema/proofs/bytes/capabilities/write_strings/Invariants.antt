use Rattle.std.proofs.Common.{length}
use Rattle.serde_json.specs.Data.{Data}
use Rattle.oci_model.specs.Shape.{text}
use Rattle.oci_json_tape.specs.Elements.{BeginsWithData}
use Rattle.oci_schema.specs.Walks.{Writes}
use Rattle.oci_schema.proofs.ArrayWalk.{ItemsLeft}
use Rattle.oci_schema.proofs.bytes.capabilities.write_strings.Given as goal

abbrev pub invariant-each_item : goal.invariant-each_item
invariant-each_item g l = Writes g.K.Sink.holds (λ a b. (d : Data) → BeginsWithData l.fn.element d → ItemsLeft text d a l.rest b) l.fn.out l.out

abbrev pub decreases-each_item : goal.decreases-each_item
decreases-each_item g l = length l.rest
