use Rattle.std.proofs.Common.{◌*◌, ◌%◌, ◌^◌, Some, sym, ap, ◌∙◌, subst}
use Rattle.std.specs.Prelude.{bit_or}
use Rattle.std.specs.List.{insert}
use Rattle.oci_schema.specs.Objects.{AreInOrder, fields_in}
use Rattle.oci_schema.proofs.Objects.{PassedSoFar, passed_begin, passed_step, passed_end}
use Rattle.oci_schema.proofs.Slots.{unwritten, inserted_in_order, inserted_fields}
use Rattle.oci_schema.proofs.bytes.object.Object.open.Goals as goal

pub each_member-init : goal.each_member-init
each_member-init c =
    let none = sym c.in_ok-slots.ensures.items in
    record {
      passed = λ d b. subst (λ ss. PassedSoFar d c.in-Some.rest ss 0) none (passed_begin d c.in-Some.rest (c.in-Some.ensures d b));
      order = subst AreInOrder none tt;
      unwritten = ap fields_in (sym none);
    }

pub each_member-preserved : goal.each_member-preserved
each_member-preserved c =
    let l = c.each_member in
    let name = c.in-Some-next_member.name in
    let value = c.in-Some-next_member.value in
    let at = c.in-Some-put.field-0 in
    let place = c.in-Some-put.ensures.0 in
    let is = sym c.in-Some-put.ensures.1 in
    record {
      passed =
          λ d b.
          subst (λ ss. PassedSoFar d c.next_member.new.members ss (bit_or l.marks (1 * 2 ^ c.mark_of.result % 2 ^ 64))) is
          (subst (λ m. PassedSoFar d c.next_member.new.members (insert l.slots.items at (unwritten name (Some value))) (bit_or l.marks (1 * 2 ^ m % 2 ^ 64))) (sym c.mark_of.ensures.value)
          (passed_step d l.rest c.next_member.new.members l.slots.items l.marks name value at c.in-Some-next_member.ensures.value place (l.invariant.passed d b)));
      order = subst AreInOrder is (inserted_in_order name (Some value) l.slots.items at place l.invariant.order);
      unwritten = ap fields_in (sym is) ∙ inserted_fields name (Some value) l.slots.items at ∙ l.invariant.unwritten;
    }

pub returns : goal.returns
returns c =
    let l = c.each_member in
    record {
      object =
          λ d b.
          let m = passed_end d l.rest c.next_member.new.members l.slots.items l.marks c.in_default-next_member.ensures.value (l.invariant.passed d b) in
          (m.0, (l.invariant.order, m.1, m.2));
      unwritten = l.invariant.unwritten;
    }
