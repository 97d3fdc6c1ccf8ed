use Rattle.serde_json.specs.View.{view}
use Rattle.oci_schema.proofs.Found.{each_finds}
use Rattle.oci_schema.proofs.Pointers.{found}
use Rattle.oci_schema.proofs.laws.pointer_finds.Goals as goal

pub returns : goal.returns
returns c = record {
  leads = λ part at. found (view c.args.value.now) part at c.names_are_in_order.ensures;
  found = λ s. each_finds s (view c.args.value.now) c.names_are_in_order.ensures;
}
