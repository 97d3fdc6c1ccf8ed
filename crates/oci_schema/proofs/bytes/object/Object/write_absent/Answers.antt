use Rattle.std.proofs.Common.{Some, None, refl, ap, ◌∙◌}
use Rattle.std.specs.Prelude.{slice_set}
use Rattle.oci_schema.specs.declared.bytes.object.Slot.{Slot}
use Rattle.oci_schema.proofs.Slots.{at_index, at_set, set_twice}
use Rattle.oci_schema.proofs.bytes.object.Object.write_absent.Goals as goal

pub returns : goal.returns
returns c = λ s here.
    let ss = c.args.self.now.slots.items in
    let at = c.args.at in
    let w = c.index_mut.result.now in
    let x : Slot = record { name = w.name; value = None; member = w.member } in
    let first = c.index_mut.ensures.value ∙ at_index s w ss at here in
    let second = c.index_mut-2.ensures.value ∙ at_index x c.index_mut-2.result.now (slice_set ss at x) at (at_set s x ss at here) in (
      set_twice x _ ss at ∙ ap (λ z. slice_set ss at (record { name = z.name; value = z.value; member = Some c.args.member })) second
          ∙ ap (λ z. slice_set ss at (record { name = z.name; value = None; member = Some c.args.member })) first,
      refl,
    )
