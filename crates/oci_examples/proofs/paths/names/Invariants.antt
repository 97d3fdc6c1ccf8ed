use Rattle.std.proofs.Common.{◌≡◌, map, take}
use Rattle.std.specs.Prelude.{fold, []}
use Rattle.oci_examples.specs.Paths.{next}
use Rattle.oci_examples.proofs.paths.names.Given as goal

abbrev pub invariant-loop-part : goal.invariant-loop-part
invariant-loop-part l = map (λ n. n.now) l.names.items ≡ fold next [] (take l.part-index (map (λ n. n.now) l.part-items))
