use Rattle.oci_select.proofs.Members.{both_stated}
use Rattle.oci_select.proofs.fits.features_fit.Goals as goal

pub returns-in-Some-Some : goal.returns-in-Some-Some
returns-in-Some-Some c =
    let both = c.in-Some-Some in
    both_stated c.args.given.now c.args.needed.now both.given both.needed c.deref-in-Some-Some.result.now c.deref.result.now c.are_among.result
    both.is-0 both.is-1 c.deref-in-Some-Some.ensures.value c.deref.ensures.value c.are_among.ensures
