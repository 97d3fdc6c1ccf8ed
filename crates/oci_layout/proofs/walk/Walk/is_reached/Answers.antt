use Rattle.std.proofs.Common.{◌≡◌, ◌<◌, length, get_or, sym, ◌∙◌, subst}
use Rattle.oci_layout.proofs.Same.{same_claim}
use Rattle.oci_layout.proofs.walk.Walk.is_reached.Goals as goal

pub returns-in-Some-get : goal.returns-in-Some-get
returns-in-Some-get c = λ same.
    let place = c.in-Some.place.now in
    let claim = c.args.claim.now in
    let e = same_claim c.in-Some-get.known.now claim (sym c.eq.ensures ∙ same) in
    let at = c.in-Some-get.ensures.lookup.3 in
    let value = c.deref.ensures.value in (
      place,
      subst (λ l. place < length l) value at.0,
      subst (λ l. get_or l place claim ≡ claim) value (sym (at.1 claim) ∙ e),
    )
