-- Which of the two has more identifiers.
use Rattle.std.proofs.Common.{◌≡◌, ◌&&◌, Bool, true, false, sym, ap, ◌∙◌}
use Rattle.std.specs.Ordering.{ordering_then}
use Rattle.std.specs.declared.cmp.Ordering.TheVariants.{Less, Greater}
use Rattle.oci_base.specs.Classes.{dot, has, until}
use Rattle.oci_grammars.specs.Precedence.{identifier_cmp}
use Rattle.oci_grammars.proofs.VersionOrder.{more_first, more_second, one_each}
use Rattle.oci_grammars.proofs.precedence.compare_last.Goals as goal

other_none : (a b : Bool) → (a && b) ≡ false → a ≡ true → b ≡ false
other_none true b e h = e
other_none false b e h = cc h

pub returns-then-contains : goal.returns-then-contains
returns-then-contains c =
    let a = c.args.first.now in
    let b = c.args.second.now in
    let there : has dot a ≡ true = sym c.contains.ensures.value ∙ c.if-contains.true in
    let none : has dot b ≡ false = other_none (has dot a) (has dot b) c.requires there in
    c.then.ensures ∙ ap (λ z. ordering_then z Greater) (c.compare_identifiers-order.ensures ∙ ap (λ z. identifier_cmp z c.cut-2.result.0.now) c.cut.ensures.front ∙ ap (identifier_cmp (until dot a)) c.cut-2.ensures.front)
    ∙ sym (more_first a b there none)

pub returns-then-contains-2 : goal.returns-then-contains-2
returns-then-contains-2 c =
    let a = c.args.first.now in
    let b = c.args.second.now in
    let none : has dot a ≡ false = sym c.contains.ensures.value ∙ c.if-contains.false in
    let there : has dot b ≡ true = sym c.contains-else-contains.ensures.value ∙ c.if-contains-2.true in
    c.then-then-contains-2.ensures ∙ ap (λ z. ordering_then z Less) (c.compare_identifiers-order.ensures ∙ ap (λ z. identifier_cmp z c.cut-2.result.0.now) c.cut.ensures.front ∙ ap (identifier_cmp (until dot a)) c.cut-2.ensures.front)
    ∙ sym (more_second a b none there)

pub returns-else-contains-2 : goal.returns-else-contains-2
returns-else-contains-2 c =
    let a = c.args.first.now in
    let b = c.args.second.now in
    let none : has dot a ≡ false = sym c.contains.ensures.value ∙ c.if-contains.false in
    let lacks : has dot b ≡ false = sym c.contains-else-contains.ensures.value ∙ c.if-contains-2.false in
    c.compare_identifiers-order.ensures ∙ ap (λ z. identifier_cmp z c.cut-2.result.0.now) c.cut.ensures.front ∙ ap (identifier_cmp (until dot a)) c.cut-2.ensures.front
    ∙ sym (one_each a b none lacks)
