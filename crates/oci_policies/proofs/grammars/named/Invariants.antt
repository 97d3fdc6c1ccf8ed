use Rattle.std.proofs.Common.{◌≡◌, drop, map}
use Rattle.oci_policies.specs.Grammars.{named}
use Rattle.oci_policies.proofs.grammars.named.Given as goal

abbrev pub invariant-loop-row : goal.invariant-loop-row
invariant-loop-row l = named (map (λ r. (r.0.now, r.1)) l.rows) l.name ≡ named (map (λ r. (r.0.now, r.1)) (drop l.row-index l.rows)) l.name
