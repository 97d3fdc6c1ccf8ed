use Rattle.std.proofs.Common.{◌≡◌, drop, map}
use Rattle.oci_base.specs.Names.{is_listed}
use Rattle.oci_commands.proofs.rule_objects.is_listed.Given as goal

abbrev pub invariant-loop-it : goal.invariant-loop-it
invariant-loop-it l = is_listed (map (λ n. n.now) l.names.items) l.name ≡ is_listed (map (λ n. n.now) (drop l.it-index l.names.items)) l.name
