use Rattle.std.proofs.Common.{◌≡◌, map, take, codes, ◌++◌, string_bytes}
use Rattle.std.specs.List.{flat_map}
use Rattle.oci_examples.proofs.paths.spelled.Given as goal

abbrev pub invariant-loop-name : goal.invariant-loop-name
invariant-loop-name l = string_bytes l.text ≡ flat_map (λ n. codes "/" ++ n) (take l.name-index (map (λ n. n.now) l.name-items))
