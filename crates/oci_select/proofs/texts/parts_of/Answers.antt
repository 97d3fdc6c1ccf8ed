use Rattle.std.proofs.Common.{refl}
use Rattle.oci_select.proofs.Slashes.{two_parts, three_parts, no_second, no_third}
use Rattle.oci_select.proofs.texts.parts_of.Goals as goal
use Rattle.oci_select.proofs.texts.parts_of.Goals.{in_default-via-in-Some+else-is_part, in_default-via-in-None+else-is_part-2}

pub returns-in-Some-clause-some : goal.returns-in-Some-clause-some
returns-in-Some-clause-some c =
    let first = c.in_ok-os in
    let second = c.in-Some in
    three_parts c.args.text.now first.os.now first.rest.now second.architecture.now second.variant.now first.ensures.some.0 first.ensures.some.1 second.ensures.some.0 second.ensures.some.1 (c.is_part.ensures.0 c.if-is_part.true)

pub returns-in-None-clause-some : goal.returns-in-None-clause-some
returns-in-None-clause-some c =
    let first = c.in_ok-os in
    two_parts c.args.text.now first.os.now first.rest.now first.ensures.some.0 first.ensures.some.1 (c.if-is_part-2.ensures.0 refl)

pub returns-in_default-clause-none : goal.returns-in_default-clause-none
returns-in_default-clause-none c = λ _.
    let first = c.in_ok-os in
    elim c.in_default.branch [
      | in_default-via-in-Some+else-is_part w ↦ no_third c.args.text.now first.os.now first.rest.now w.in-Some.architecture.now w.in-Some.variant.now first.ensures.some.0 first.ensures.some.1 w.in-Some.ensures.some.0 w.in-Some.ensures.some.1 (λ h. cc (w.if-is_part.ensures.1 h))
      | in_default-via-in-None+else-is_part-2 w ↦ no_second c.args.text.now first.os.now first.rest.now first.ensures.some.0 first.ensures.some.1 (w.in-None.ensures.none refl) (λ h. cc (w.if-is_part-2.ensures.1 h))
    ]
