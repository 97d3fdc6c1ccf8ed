use Rattle.std.proofs.Common.{◌≡◌, ◌++◌, drop, map}
use Rattle.oci_rules.specs.Tables.{rule_of}
use Rattle.oci_commands.specs.RuleTexts.{named}
use Rattle.oci_commands.proofs.rule_lists.rules_named.Given as goal

abbrev pub invariant-loop-rule : goal.invariant-loop-rule
invariant-loop-rule l = map (λ r. rule_of r.now) l.found.items ++ named l.name (map (λ r. rule_of r.now) (drop l.rule-index l.rules.items)) ≡ named l.name (map (λ r. rule_of r.now) l.rules.items)
