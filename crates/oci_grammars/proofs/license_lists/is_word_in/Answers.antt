-- The first word is taken off.
use Rattle.std.proofs.Common.{◌≡◌, ◌<◌, ◌||◌, true, false, length, sym, ap, ◌∙◌, subst}
use Rattle.oci_base.specs.Classes.{has, until}
use Rattle.oci_grammars.specs.DecidedUris.{is_any_case, is_word_of}
use Rattle.oci_grammars.specs.Licenses.{words_in}
use Rattle.oci_grammars.proofs.LicenseLists.{word_taken, last_word}
use Rattle.oci_grammars.proofs.Taken.{shorter}
use Rattle.oci_grammars.proofs.license_lists.is_word_in.Goals as goal

pub loop-rest-smaller : goal.loop-rest-smaller
loop-rest-smaller c =
    let there : has 32 c.loop-rest.rest.now ≡ true = sym c.contains.ensures.value ∙ c.loop-rest-test.true in
    subst (λ z. length z < length c.loop-rest.rest.now) (sym c.cut.ensures.back) (shorter 32 c.loop-rest.rest.now there)

pub loop-rest-preserved : goal.loop-rest-preserved
loop-rest-preserved c =
    let there : has 32 c.loop-rest.rest.now ≡ true = sym c.contains.ensures.value ∙ c.loop-rest-test.true in
    ap (λ z. (c.loop-rest.found || z) || is_word_of (words_in c.cut.result.1.now) c.args.text.now) (c.is_any_case-found.ensures ∙ ap (λ z. is_any_case z c.args.text.now) c.cut.ensures.front)
    ∙ ap (λ z. (c.loop-rest.found || is_any_case (until 32 c.loop-rest.rest.now) c.args.text.now) || is_word_of (words_in z) c.args.text.now) c.cut.ensures.back
    ∙ word_taken c.loop-rest.rest.now c.args.text.now c.loop-rest.found there
    ∙ c.loop-rest.invariant

pub returns : goal.returns
returns c =
    let none : has 32 c.loop-rest.rest.now ≡ false = sym c.contains.ensures.value ∙ c.loop-rest-test.false in
    ap (λ z. c.loop-rest.found || z) c.is_any_case.ensures ∙ last_word c.loop-rest.rest.now c.args.text.now c.loop-rest.found none ∙ c.loop-rest.invariant
