use Rattle.std.proofs.Common.{◌+◌, ◌<◌, length, drop, get_or, sym, ap, ◌∙◌, subst, arith}
use Rattle.serde_json.specs.Find.{get}
use Rattle.oci_schema.proofs.Listed.{cut_at}
use Rattle.oci_schema.specs.Objects.{IsAt, Finds}
use Rattle.oci_schema.proofs.Slots.{at_cut, same_name, other_name}
use Rattle.oci_schema.proofs.bytes.object.Object.find.Goals as goal

pub returns-then-eq : goal.returns-then-eq
returns-then-eq c =
    let l = c.loop-slot in
    let ss = c.args.self.now.slots.items in
    let s = c.slot-item.result in
    let name = c.args.name.now in
    let cut = cut_at ss l.slot-index s (subst (λ xs. l.slot-index < length xs) c.deref-slot-items.ensures.value c.loop-slot-test.true) (c.slot-item.is ∙ ap (λ xs. get_or xs l.slot-index s) c.deref-slot-items.ensures.value) in
    let same = same_name s.name.now name (sym c.eq.ensures ∙ c.if-eq.true) in (
      s,
      subst (λ i. IsAt i s ss) (sym l.invariant.same) (at_cut s (drop (l.slot-index + 1) ss) ss l.slot-index cut),
      same,
      λ d b free. (subst (λ xs. Finds name xs (get name d)) cut (l.invariant.finds d b)).0 same free,
    )

pub loop-slot-preserved : goal.loop-slot-preserved
loop-slot-preserved c =
    let l = c.loop-slot in
    let ss = c.args.self.now.slots.items in
    let s = c.slot-item.result in
    let name = c.args.name.now in
    let cut = cut_at ss l.slot-index s (subst (λ xs. l.slot-index < length xs) c.deref-slot-items.ensures.value c.loop-slot-test.true) (c.slot-item.is ∙ ap (λ xs. get_or xs l.slot-index s) c.deref-slot-items.ensures.value) in
    record {
      same = omega (arith, l.invariant.same);
      finds = λ d b. (subst (λ xs. Finds name xs (get name d)) cut (l.invariant.finds d b)).1 (other_name s.name.now name (sym c.eq.ensures ∙ c.if-eq.false));
    }
