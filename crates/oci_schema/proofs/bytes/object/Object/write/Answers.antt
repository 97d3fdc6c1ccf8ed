use Rattle.std.proofs.Common.{Some, refl, ap, ◌∙◌}
use Rattle.std.specs.Prelude.{slice_set}
use Rattle.oci_schema.proofs.Slots.{at_index}
use Rattle.oci_schema.proofs.bytes.object.Object.write.Goals as goal

pub returns : goal.returns
returns c = λ s here.
    let ss = c.args.self.now.slots.items in
    let is = c.index_mut.ensures.value ∙ at_index s c.index_mut.result.now ss c.args.at here in
    (ap (λ z. slice_set ss c.args.at (record { name = z.name; value = z.value; member = Some c.args.member })) is, refl)
