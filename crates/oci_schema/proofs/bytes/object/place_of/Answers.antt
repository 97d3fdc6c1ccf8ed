use Rattle.std.proofs.Common.{◌≡◌, ◌+◌, drop, refl, sym, ◌∙◌, subst, arith, drop_of_length-le}
use Rattle.oci_schema.proofs.Listed.{cut_at}
use Rattle.oci_schema.specs.Objects.{IsPlaceOf}
use Rattle.oci_schema.proofs.Slots.{place_after}
use Rattle.oci_schema.proofs.bytes.object.place_of.Goals as goal

pub returns-in-Less : goal.returns-in-Less
returns-in-Less c =
    let l = c.loop-slot in
    let name = c.args.name.now in
    let ss = c.args.slots.now in
    let cut = cut_at ss l.slot-index c.slot-item.result c.loop-slot-test.true c.slot-item.is in
    let same : l.at + 0 ≡ l.at = omega arith in
    subst (IsPlaceOf name ss) same (l.invariant.before 0 (subst (λ xs. IsPlaceOf name xs 0) (sym cut) (sym c.cmp.ensures ∙ c.in-Less.is)))

pub loop-slot-preserved : goal.loop-slot-preserved
loop-slot-preserved c =
    let l = c.loop-slot in
    let name = c.args.name.now in
    let ss = c.args.slots.now in
    let x = c.slot-item.result in
    let cut = cut_at ss l.slot-index x c.loop-slot-test.true c.slot-item.is in
    record {
      same = omega (arith, l.invariant.same);
      before =
          place_after name ss (drop (l.slot-index + 1) ss) x l.at (sym c.cmp.ensures ∙ c.in-Greater.is)
          (λ j h. l.invariant.before j (subst (λ xs. IsPlaceOf name xs j) (sym cut) h));
    }

pub returns : goal.returns
returns c =
    let l = c.loop-slot in
    let name = c.args.name.now in
    let ss = c.args.slots.now in
    let same : l.at + 0 ≡ l.at = omega arith in
    subst (IsPlaceOf name ss) same (l.invariant.before 0 (subst (λ xs. IsPlaceOf name xs 0) (sym (drop_of_length-le ss c.loop-slot-test.false)) refl))
