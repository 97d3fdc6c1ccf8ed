use Rattle.std.proofs.Common.{◌≡◌, ◌+◌, [], ◌∷◌, true, drop, sym, ap, ◌∙◌, subst, drop_of_length-le}
use Rattle.std.specs.Prelude.{IfSome}
use Rattle.serde_json.specs.Data.{Data}
use Rattle.oci_model.specs.Means.{is_object}
use Rattle.oci_json_tape.specs.Elements.{BeginsWithData}
use Rattle.oci_schema.specs.Shapes.{part_shape, members_in}
use Rattle.oci_schema.proofs.Listed.{cut_at}
use Rattle.oci_schema.specs.Fields.{Field, AreAccepted, AreFieldsOf}
use Rattle.oci_schema.specs.Objects.{IsObject, with_field, fields_in}
use Rattle.oci_schema.proofs.ArrayWalk.{items_begin, items_step, items_end}
use Rattle.oci_schema.proofs.FieldWalk.{FieldsLeft, left_begin, left_step, left_end, record_written, value_accepted, value_written, none_accepted, none_means, if_done}
use Rattle.oci_schema.proofs.MapWalk.{members_begin, members_step, members_end}
use Rattle.oci_json_tape.proofs.Sinks.{kept, and_then, with_key}
use Rattle.oci_schema.proofs.bytes.walk.+writes.Goals as goal

pub write_items-each_item-init : goal.write_items-each_item-init
write_items-each_item-init g t c = kept c.in_ok-begin_array.ensures (λ a b wrote d begins. items_begin (part_shape (g.T.Records.shape_at c.args.records.now) c.args.part.now) d a _ b (c.in-Some.ensures d begins) wrote)

pub write_items-each_item-preserved : goal.write_items-each_item-preserved
write_items-each_item-preserved g t c =
    and_then c.each_item.invariant (c.in_ok-done.ensures c.if-not-done.false)
    (λ a b e left wrote d begins.
    items_step (part_shape (g.T.Records.shape_at c.args.records.now) c.args.part.now) d a c.each_item.rest b c.next_item.new.items e c.in-Some-next_item.item c.in-Some-next_item.ensures.value wrote (left d begins))

pub write_items-returns : goal.write_items-returns
write_items-returns g t c = λ h.
    and_then c.each_item.invariant c.in_ok-end_array.ensures
    (λ a b e left wrote d begins.
    items_end (part_shape (g.T.Records.shape_at c.args.records.now) c.args.part.now) d a c.each_item.rest b c.next_item.new.items e c.in_default-next_item.ensures.value wrote (left d begins))

pub write_map-each_member-init : goal.write_map-each_member-init
write_map-each_member-init g t c = kept c.in_ok-begin_object.ensures (λ a b wrote d begins. members_begin (part_shape (g.T.Records.shape_at c.args.records.now) c.args.part.now) d a _ b (c.in-Some.ensures d begins) wrote)

pub write_map-each_member-preserved : goal.write_map-each_member-preserved
write_map-each_member-preserved g t c =
    and_then c.each_member.invariant (with_key c.in_ok-key.ensures (c.in_ok-done.ensures c.if-not-done.false))
    (λ a b e left wrote d begins.
    members_step (part_shape (g.T.Records.shape_at c.args.records.now) c.args.part.now) d a c.each_member.last c.in-Some-next_member.name c.each_member.rest b c.next_member.new.members wrote.0 e
    c.in-Some-next_member.member c.in-Some-next_member.ensures.value (c.comes_after.ensures c.if-not-comes_after.false) wrote.1 wrote.2 (left d begins))

pub write_map-returns : goal.write_map-returns
write_map-returns g t c = λ h.
    and_then c.each_member.invariant c.in_ok-end_object.ensures
    (λ a b e left wrote d begins.
    members_end (part_shape (g.T.Records.shape_at c.args.records.now) c.args.part.now) d a c.each_member.last c.each_member.rest b c.next_member.new.members e c.in_default-next_member.ensures.value wrote (left d begins))

pub write_record-returns : goal.write_record-returns
write_record-returns g t c =
    let f = g.T.Records.shape_at c.args.records.now in
    let rows = members_in f c.record-record.result.now.members.now in
    let opened = subst (λ r. IfSome r (λ o. (d : Data) → BeginsWithData c.args.element.now d → (is_object d ≡ true) × IsObject o d)) c.in-Some.is c.in_ok-object.ensures.object in
    let unwritten = subst (λ r. IfSome r (λ o. fields_in o.slots.items ≡ [])) c.in-Some.is c.in_ok-object.ensures.unwritten in
    if_done c.write_fields.result _ _ c.write_fields.ensures
    (λ w. kept w (λ a b wrote d begins.
    let is = opened d begins in
    let fields = c.choose.ensures c.if-not-choose.false unwritten f d is.1 in
    record_written f (f c.args.place) rows d (fields_in c.as_slice.result.now) a b c.record-record.ensures is.0
    (subst (λ xs. AreFieldsOf f rows d (fields_in xs)) (sym c.as_slice.ensures.value) fields) wrote.0 wrote.1))

pub write_fields-loop-slot-init : goal.write_fields-loop-slot-init
write_fields-loop-slot-init g t c =
    kept c.in_ok-begin_object.ensures (λ a b wrote. ((λ h. h), left_begin (g.T.Records.shape_at c.args.records.now) (fields_in c.args.slots.now) a b wrote))

pub write_fields-loop-slot-preserved-in_default : goal.write_fields-loop-slot-preserved-in_default
write_fields-loop-slot-preserved-in_default g t c =
    let f = g.T.Records.shape_at c.args.records.now in
    let l = c.loop-slot in
    let ss = c.args.slots.now in
    let s = c.slot-item.result in
    let rest = drop (l.slot-index + 1) ss in
    let skip : fields_in (drop l.slot-index ss) ≡ fields_in rest = ap fields_in (cut_at ss l.slot-index s c.loop-slot-test.true c.slot-item.is) ∙ ap (λ o. with_field o s.value (fields_in rest)) c.in_default.is in
    kept l.invariant (λ a b left. ((λ h. left.0 (subst (AreAccepted f) (sym skip) h)), subst (λ es. FieldsLeft f (fields_in ss) es a b) skip left.1))

pub write_fields-loop-slot-preserved : goal.write_fields-loop-slot-preserved
write_fields-loop-slot-preserved g t c =
    let f = g.T.Records.shape_at c.args.records.now in
    let l = c.loop-slot in
    let ss = c.args.slots.now in
    let s = c.slot-item.result in
    let rest = drop (l.slot-index + 1) ss in
    let e : Field = record { member = c.in-Some.member; value = s.value } in
    let cut : fields_in (drop l.slot-index ss) ≡ e ∷ fields_in rest =
    ap fields_in (cut_at ss l.slot-index s c.loop-slot-test.true c.slot-item.is) ∙ ap (λ o. with_field o s.value (fields_in rest)) c.in-Some.is in
    and_then l.invariant (with_key c.in_ok-key.ensures (c.in_ok-done.ensures c.if-not-done.false))
    (λ a b x left wrote. (
      (λ h. left.0 (subst (AreAccepted f) (sym cut) (wrote.2.0, h))),
      left_step f (fields_in ss) a e (fields_in rest) b wrote.0 x wrote.1 wrote.2.1 (subst (λ es. FieldsLeft f (fields_in ss) es a b) cut left.1),
    ))

pub write_fields-returns : goal.write_fields-returns
write_fields-returns g t c =
    let f = g.T.Records.shape_at c.args.records.now in
    let ss = c.args.slots.now in
    let l = c.loop-slot in
    let end : drop l.slot-index ss ≡ [] = drop_of_length-le ss c.loop-slot-test.false in
    λ h.
    and_then l.invariant c.in_ok-end_object.ensures
    (λ a b x left wrote. (
      left.0 (subst (λ rest. AreAccepted f (fields_in rest)) (sym end) tt),
      left_end f (fields_in ss) a b x wrote (subst (λ rest. FieldsLeft f (fields_in ss) (fields_in rest) a b) end left.1),
    ))

pub write_field-returns-in-Some : goal.write_field-returns-in-Some
write_field-returns-in-Some g t c =
    let f = g.T.Records.shape_at c.args.records.now in
    let e : Field = record { member = c.args.member; value = c.args.value.now } in
    if_done c.write_value.result _ _ c.write_value.ensures
    (λ w. kept w (λ a b wrote. (value_accepted f e c.in-Some.value a b c.in-Some.is wrote, value_written f e c.in-Some.value a b c.in-Some.is wrote)))

pub write_field-returns-in-None : goal.write_field-returns-in-None
write_field-returns-in-None g t c =
    let f = g.T.Records.shape_at c.args.records.now in
    let e : Field = record { member = c.args.member; value = c.args.value.now } in
    if_done c.write_absent.result _ _ c.write_absent.ensures (λ w. kept w (λ a b wrote. (none_accepted f e c.in-None.is, λ n m. wrote f n (none_means f e n c.in-None.is m))))
