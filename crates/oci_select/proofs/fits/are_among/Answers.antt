use Rattle.std.proofs.Common.{List, ℕ, sym, subst, refl, map, below_more}
use Rattle.std.specs.Prelude.{string_bytes}
use Rattle.std.specs.List.{Contains}
use Rattle.oci_select.proofs.Members.{missing_at, one_more, each_member}
use Rattle.oci_select.proofs.fits.are_among.Goals as goal

pub returns-then-not-is_given : goal.returns-then-not-is_given
returns-then-not-is_given c =
    let given = map string_bytes c.args.given.now in
    let none : ¬ Contains given (string_bytes c.feature-item.result) =
    λ h. cc (c.is_given.ensures.1 (subst (λ (t : List ℕ). Contains given t) (sym c.as_str.ensures.value) h), c.if-not-is_given.true) in
    (λ h. cc h, λ all. absurd (missing_at string_bytes c.args.needed.now c.loop-feature.feature-index c.feature-item.result c.loop-feature-test.true c.feature-item.is given none all))

pub loop-feature-preserved : goal.loop-feature-preserved
loop-feature-preserved c =
    let given = map string_bytes c.args.given.now in
    let here : Contains given (string_bytes c.feature-item.result) = subst (λ (t : List ℕ). Contains given t) c.as_str.ensures.value (c.is_given.ensures.0 c.if-not-is_given.false) in
    below_more _ _ c.loop-feature.invariant (one_more string_bytes c.args.needed.now given c.loop-feature.feature-index c.feature-item.result c.loop-feature-test.true c.feature-item.is here)

pub returns : goal.returns
returns c =
    let given = map string_bytes c.args.given.now in
    (λ _. each_member string_bytes c.args.needed.now (λ t. Contains given t) c.loop-feature.feature-index c.loop-feature-test.false c.loop-feature.invariant, λ _. refl)
