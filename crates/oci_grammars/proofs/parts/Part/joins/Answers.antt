-- The first part is taken off.
use Rattle.std.proofs.Common.{◌≡◌, ◌&&◌, ◌<◌, true, false, length, sym, ap, ◌∙◌, subst}
use Rattle.oci_base.specs.Classes.{has, until}
use Rattle.oci_grammars.specs.Decided.{are_joined, part_of}
use Rattle.oci_grammars.proofs.Taken.{first_taken, last_taken, shorter}
use Rattle.oci_grammars.proofs.parts.Part.joins.Goals as goal

pub loop-mark-smaller : goal.loop-mark-smaller
loop-mark-smaller c =
    let there : has c.args.mark c.loop-mark.rest.now ≡ true = sym c.contains.ensures.value ∙ c.loop-mark-test.true in
    subst (λ z. length z < length c.loop-mark.rest.now) (sym c.cut.ensures.back) (shorter c.args.mark c.loop-mark.rest.now there)

pub loop-mark-preserved : goal.loop-mark-preserved
loop-mark-preserved c =
    let there : has c.args.mark c.loop-mark.rest.now ≡ true = sym c.contains.ensures.value ∙ c.loop-mark-test.true in
    ap (λ z. (c.loop-mark.sound && z) && are_joined c.args.self c.args.mark c.cut.result.1.now) (c.is-sound.ensures ∙ ap (part_of c.args.self) c.cut.ensures.front)
    ∙ ap (λ z. (c.loop-mark.sound && part_of c.args.self (until c.args.mark c.loop-mark.rest.now)) && are_joined c.args.self c.args.mark z) c.cut.ensures.back
    ∙ first_taken c.args.self c.args.mark c.loop-mark.rest.now c.loop-mark.sound there
    ∙ c.loop-mark.invariant

pub returns : goal.returns
returns c =
    let none : has c.args.mark c.loop-mark.rest.now ≡ false = sym c.contains.ensures.value ∙ c.loop-mark-test.false in
    ap (λ z. c.loop-mark.sound && z) c.is.ensures ∙ last_taken c.args.self c.args.mark c.loop-mark.rest.now c.loop-mark.sound none ∙ c.loop-mark.invariant
