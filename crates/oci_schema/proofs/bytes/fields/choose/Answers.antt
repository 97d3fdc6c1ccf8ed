use Rattle.std.proofs.Common.{sym, refl, subst, drop_of_length-le}
use Rattle.serde_json.specs.Data.{no_members}
use Rattle.oci_schema.specs.Shapes.{members_in}
use Rattle.oci_schema.specs.Objects.{fields_in}
use Rattle.oci_schema.proofs.FieldWalk.{FieldsSoFar, fields_more, fields_end}
use Rattle.oci_schema.proofs.bytes.fields.choose.Goals as goal

pub loop-member-init : goal.loop-member-init
loop-member-init c = λ empty f d b. let all = members_in f c.args.members.now in (b, subst (FieldsSoFar f d all all) (sym empty) (no_members, tt, refl, λ h e. e))

pub loop-member-preserved : goal.loop-member-preserved
loop-member-preserved c = λ empty f d b.
    let l = c.loop-member in
    let all = members_in f c.args.members.now in
    let k = l.invariant empty f d b in
    let a = c.add_member.ensures c.if-not-add_member.false f d k.0 in
    (a.0, fields_more f d all c.args.members.now l.member-index _ (fields_in l.object.slots.items) (fields_in c.add_member.new.object.slots.items) c.loop-member-test.true a.1 a.2 k.1)

pub returns : goal.returns
returns c = λ t empty f d b.
    let l = c.loop-member in
    let all = members_in f c.args.members.now in
    let es = fields_in l.object.slots.items in
    fields_end f d all es (subst (λ z. FieldsSoFar f d all (members_in f z) es) (drop_of_length-le c.args.members.now c.loop-member-test.false) (l.invariant empty f d b).1)
