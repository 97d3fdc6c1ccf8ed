use Rattle.std.proofs.Common.{◌≡◌, refl, true, false, bytes_eq, below_more}
use Rattle.std.specs.Prelude.{string_bytes}
use Rattle.oci_select.proofs.Members.{stands_at, differs_at, not_there}
use Rattle.oci_select.proofs.fits.is_given.Goals as goal

pub returns-then-eq : goal.returns-then-eq
returns-then-eq c =
    let same : bytes_eq (string_bytes c.given-item.result) c.args.feature.now ≡ true = cc (c.as_str.ensures.value) in
    (λ _. stands_at string_bytes c.args.features.now c.loop-given.given-index c.given-item.result c.loop-given-test.true c.given-item.is c.args.feature.now same, λ _. refl)

pub loop-given-preserved : goal.loop-given-preserved
loop-given-preserved c =
    let other : bytes_eq (string_bytes c.given-item.result) c.args.feature.now ≡ false = cc (c.as_str.ensures.value) in
    below_more _ _ c.loop-given.invariant (differs_at string_bytes c.args.features.now c.loop-given.given-index c.given-item.result c.loop-given-test.true c.given-item.is c.args.feature.now other)

pub returns : goal.returns
returns c = (λ h. cc h, λ h. absurd (not_there string_bytes c.args.features.now c.args.feature.now c.loop-given.given-index c.loop-given-test.false c.loop-given.invariant h))
