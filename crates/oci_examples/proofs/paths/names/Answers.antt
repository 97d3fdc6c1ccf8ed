use Rattle.std.proofs.Common.{◌≡◌, map, List, ℕ, [], Bor, arith, lit<, IfOk, subst}
use Rattle.std.specs.Prelude.{◌==◌}
use Rattle.std.specs.List.{slice_split}
use Rattle.std.proofs.lemmas.Grind.{common_steps}
use Rattle.std.proofs.lemmas.Iterator.Consumers.{map_from_collect}
use Rattle.std.proofs.lemmas.Iterator.Splits.{YieldsList-from_str_split}
use Rattle.oci_examples.specs.Paths.{next}
use Rattle.oci_examples.proofs.Folds.{fold_more}
use Rattle.oci_examples.proofs.paths.names.Goals as goal

pub loop-part-preserved : goal.loop-part-preserved
loop-part-preserved c =
    let more = fold_more next (λ (n : Bor (List ℕ)). n.now) [] c.deref-part-items.result.now c.loop-part.part-index (record { ref_ptr = (0, 0); now = [] }) c.loop-part-test.true in
    let after = c.in_ok-step.ensures in
    let before = c.loop-part.invariant in cc

pub returns : goal.returns
returns c =
    let parts = map_from_collect _ c.collect.ensures.ran (YieldsList-from_str_split 47 c.args.path.now (lit< tt) c.split.ensures.text c.split.ensures.has_more c.split.ensures.pattern) in
    let same = c.in_ok-parts.was in
    let is : c.deref-part-items.result.now ≡ c.in_ok-parts.parts.items = cc in
    let cut : map (λ n. n.now) c.in_ok-parts.parts.items ≡ slice_split (λ b. b == 47) c.args.path.now = subst (λ r. IfOk r (λ w. map (λ n. n.now) w.items ≡ slice_split (λ b. b == 47) c.args.path.now)) same parts in
    grind (arith, common_steps, c.loop-part.invariant, cut, is)
