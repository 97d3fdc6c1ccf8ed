use Rattle.std.proofs.Common.{◌≡◌, None, sym, ap, ◌∙◌}
use Rattle.oci_schema.proofs.Slots.{at_index, if_copied}
use Rattle.oci_schema.proofs.bytes.object.Object.unwritten.Goals as goal

pub returns-in-None : goal.returns-in-None
returns-in-None c = λ s here.
    let is = c.index-slot.ensures ∙ at_index s c.index-slot.result.now c.args.self.now.slots.items c.args.at here in
    if_copied c.as_ref.result s.value (s.member ≡ None) (sym (ap (λ z. z.member) is) ∙ c.in-None.is) (c.as_ref.ensures.value ∙ ap (λ z. z.value) is)
