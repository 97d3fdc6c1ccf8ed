use Rattle.std.proofs.Common.{◌≡◌, map, IfOk, lit<, subst}
use Rattle.std.specs.Prelude.{◌==◌}
use Rattle.std.specs.List.{slice_split}
use Rattle.std.proofs.lemmas.Iterator.Consumers.{map_from_collect}
use Rattle.std.proofs.lemmas.Iterator.Splits.{YieldsList-from_str_split}
use Rattle.oci_policies.proofs.places.between_slashes.Goals as goal

pub returns : goal.returns
returns c =
    let parts = map_from_collect _ c.collect.ensures.ran (YieldsList-from_str_split 47 c.args.text.now (lit< tt) c.split.ensures.text c.split.ensures.has_more c.split.ensures.pattern) in
    let same = c.in_ok-parts.was in
    subst (λ r. IfOk r (λ w. map (λ n. n.now) w.items ≡ slice_split (λ b. b == 47) c.args.text.now)) same parts
