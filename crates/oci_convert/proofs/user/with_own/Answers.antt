use Rattle.std.proofs.Common.{[], ◌∷◌, ◌++◌, List, ℕ, ap, ◌∙◌}
use Rattle.std.specs.Prelude.{filter, not, ◌==◌}
use Rattle.std.proofs.lemmas.List.{take_all}
use Rattle.oci_convert.proofs.Steps.{passed_more}
use Rattle.oci_convert.proofs.user.with_own.Goals as goal

pub loop-other-preserved : goal.loop-other-preserved
loop-other-preserved c =
    passed_more (λ g. not (g == c.args.gid)) (c.args.gid ∷ []) c.loop-other.gids.items c.add_other.new.gids.items c.deref-other-items.result.now c.loop-other.other-index
    c.loop-other-test.true c.loop-other.invariant c.in_ok-add_other.ensures

pub returns : goal.returns
returns c =
    c.loop-other.invariant ∙ ap (λ (xs : List ℕ). (c.args.gid ∷ []) ++ filter (λ g. not (g == c.args.gid)) xs)
    (take_all c.loop-other.other-index c.deref-other-items.result.now c.loop-other-test.false ∙ c.deref-other-items.ensures.value)
