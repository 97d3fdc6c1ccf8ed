use Rattle.std.proofs.Common.{◌≡◌, ◌++◌, drop, map}
use Rattle.oci_rules.specs.Tables.{rule_of}
use Rattle.oci_commands.proofs.rule_lists.add_rules.Given as goal

abbrev pub invariant-loop-rule : goal.invariant-loop-rule
invariant-loop-rule l = map (λ r. rule_of r.now) l.rules.items ++ map rule_of (drop l.rule-index l.book) ≡ map (λ r. rule_of r.now) l.initial.rules.items ++ map rule_of l.book
