-- The first identifiers differ, or are taken off.
use Rattle.std.proofs.Common.{◌≡◌, ◌≢◌, ◌<◌, true, length, sym, ap, ◌∙◌, subst}
use Rattle.std.specs.declared.cmp.Ordering.TheVariants.{Equal}
use Rattle.oci_base.specs.Classes.{dot, has, until, after}
use Rattle.oci_base.proofs.Lacks.{both}
use Rattle.oci_grammars.specs.Precedence.{identifier_cmp, parts_cmp}
use Rattle.oci_grammars.proofs.Taken.{shorter}
use Rattle.oci_grammars.proofs.VersionOrder.{next_parts, first_differs}
use Rattle.oci_grammars.proofs.precedence.compare_parts.Goals as goal

pub returns-in_default : goal.returns-in_default
returns-in_default c =
    let a = c.loop-left.left.now in
    let b = c.loop-left.right.now in
    let dots = both _ _ c.loop-left-test.true in
    let here : has dot a ≡ true = sym c.contains.ensures.value ∙ dots.0 in
    let there : has dot b ≡ true = sym c.contains-in-loop-left.ensures.value ∙ dots.1 in
    let order : c.compare_identifiers.result ≡ identifier_cmp (until dot a) (until dot b) =
    c.compare_identifiers.ensures ∙ ap (λ z. identifier_cmp z c.cut-in-loop-left.result.0.now) c.cut.ensures.front ∙ ap (identifier_cmp (until dot a)) c.cut-in-loop-left.ensures.front in
    let differs : identifier_cmp (until dot a) (until dot b) ≢ Equal = λ e. c.in_default.not-Equal (order ∙ e) in
    order ∙ sym (first_differs a b here there differs) ∙ c.loop-left.invariant

pub loop-left-smaller : goal.loop-left-smaller
loop-left-smaller c =
    let dots = both _ _ c.loop-left-test.true in
    let here : has dot c.loop-left.left.now ≡ true = sym c.contains.ensures.value ∙ dots.0 in
    subst (λ z. length z < length c.loop-left.left.now) (sym c.cut.ensures.back) (shorter dot c.loop-left.left.now here)

pub loop-left-preserved : goal.loop-left-preserved
loop-left-preserved c =
    let a = c.loop-left.left.now in
    let b = c.loop-left.right.now in
    let dots = both _ _ c.loop-left-test.true in
    let here : has dot a ≡ true = sym c.contains.ensures.value ∙ dots.0 in
    let there : has dot b ≡ true = sym c.contains-in-loop-left.ensures.value ∙ dots.1 in
    let order : identifier_cmp (until dot a) (until dot b) ≡ Equal =
    sym (c.compare_identifiers.ensures ∙ ap (λ z. identifier_cmp z c.cut-in-loop-left.result.0.now) c.cut.ensures.front ∙ ap (identifier_cmp (until dot a)) c.cut-in-loop-left.ensures.front) ∙ c.in-Equal.is in
    ap (λ z. parts_cmp z c.cut-in-loop-left.result.1.now) c.cut.ensures.back ∙ ap (parts_cmp (after dot a)) c.cut-in-loop-left.ensures.back
    ∙ sym (next_parts a b here there order) ∙ c.loop-left.invariant
