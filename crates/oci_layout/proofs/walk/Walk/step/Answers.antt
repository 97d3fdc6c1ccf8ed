use Rattle.std.proofs.Common.{◌≡◌, ◌++◌, ◌∷◌, [], length, slice_get, Some, sym, ap, ◌∙◌, subst}
use Rattle.std.proofs.lemmas.Option.{slice_get-get_or}
use Rattle.oci_layout.specs.Walk.{IsUnderway}
use Rattle.oci_layout.proofs.Walks.{one_more}
use Rattle.oci_layout.proofs.walk.Walk.step.Goals as goal

pub returns-clause-underway : goal.returns-clause-underway
returns-clause-underway g c = λ first u.
    let shows = g.S.Shown.shows c.args.store.now in
    let claims = c.args.self.now.claims.items in
    let claim = c.in-Some.claim.now in
    let place = c.len-place.result in
    let at = c.in-Some.ensures.lookup.3 in
    let found : slice_get c.deref.result.now place ≡ Some claim = slice_get-get_or c.deref.result.now place claim at.0 ∙ ap Some (sym (at.1 claim)) in
    let here : slice_get claims (length c.args.self.now.faults.items) ≡ Some claim =
    subst (λ k. slice_get claims k ≡ Some claim) (c.len-place.ensures ∙ c.args.self.now.faults.ok.0) (subst (λ l. slice_get l place ≡ Some claim) c.deref.ensures.value found) in
    let more = c.in_ok-add_all.ensures in
    let faults : c.add_all.new.self.faults.items ≡ c.args.self.now.faults.items ++ c.in_ok-seen.seen.fault ∷ [] =
    ap (λ v. v.items) more.faults ∙ c.in_ok-push.ensures.items in
    subst (λ l. IsUnderway shows first c.add_all.new.self.claims.items l) (sym faults)
    (one_more shows first claims c.add_all.new.self.claims.items c.args.self.now.faults.items claim c.in_ok-seen.seen.fault
    c.in_ok-seen.seen.claims.items here c.in_ok-seen.ensures more.kept more.added more.only u)
