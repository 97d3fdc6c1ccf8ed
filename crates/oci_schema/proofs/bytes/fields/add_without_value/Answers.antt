use Rattle.std.proofs.Common.{None, refl, sym, subst}
use Rattle.oci_schema.specs.declared.bytes.object.Object.{Object}
use Rattle.oci_schema.specs.Objects.{IsAt}
use Rattle.oci_schema.proofs.Adding.{adds_absent_written}
use Rattle.oci_schema.proofs.Slots.{unwritten, at_within, at_inserted}
use Rattle.oci_schema.proofs.bytes.fields.add_without_value.Goals as goal

pub write-requires : goal.write-requires
write-requires c =
    let name = c.args.member.now.name in
    let s = unwritten name None in
    let at = c.in-Some.at in
    let p = c.in-Some.ensures in
    at_within s c.put.new.slots.items at (subst (IsAt at s) (sym p.1) (at_inserted s name.now c.args.object.now.slots.items at p.0))

pub returns : goal.returns
returns c = λ t f d n b absent means.
    let m = c.args.member in
    let name = m.now.name in
    let s = unwritten name None in
    let at = c.in-Some.at in
    let p = c.in-Some.ensures in
    let mid : Object = record { slots = c.put.new.slots; marks = c.args.object.now.marks } in
    adds_absent_written f d m n at c.args.object.now mid c.write.new.self p.0 p.1 refl absent
    (c.write.ensures s (subst (IsAt at s) (sym p.1) (at_inserted s name.now c.args.object.now.slots.items at p.0))) means b
