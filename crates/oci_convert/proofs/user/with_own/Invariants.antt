use Rattle.std.proofs.Common.{◌≡◌, ◌++◌, [], ◌∷◌, take}
use Rattle.std.specs.Prelude.{filter, not, ◌==◌}
use Rattle.oci_convert.proofs.user.with_own.Given as goal

abbrev pub invariant-loop-other : goal.invariant-loop-other
invariant-loop-other l = l.gids.items ≡ (l.gid ∷ []) ++ filter (λ g. not (g == l.gid)) (take l.other-index l.other-items)
