use Rattle.oci_model.specs.Shape.{text}
use Rattle.oci_schema.proofs.ArrayWalk.{items_begin, items_step, items_end}
use Rattle.oci_json_tape.proofs.Sinks.{kept, and_then}
use Rattle.oci_schema.proofs.bytes.capabilities.write_strings.Goals as goal

pub each_item-init : goal.each_item-init
each_item-init g c = kept c.in_ok-begin_array.ensures (λ a b wrote d begins. items_begin text d a _ b (c.in-Some.ensures d begins) wrote)

pub each_item-preserved : goal.each_item-preserved
each_item-preserved g c =
    and_then c.each_item.invariant (c.in_ok-done.ensures c.if-not-done.false)
    (λ a b e left wrote d begins. items_step text d a c.each_item.rest b c.next_item.new.items e c.in-Some-next_item.item c.in-Some-next_item.ensures.value wrote (left d begins))

pub returns : goal.returns
returns g c = λ h.
    and_then c.each_item.invariant c.in_ok-end_array.ensures
    (λ a b e left wrote d begins. items_end text d a c.each_item.rest b c.next_item.new.items e c.in_default-next_item.ensures.value wrote (left d begins))
