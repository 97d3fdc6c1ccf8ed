use Rattle.std.proofs.Common.{map, take}
use Rattle.std.specs.List.{AllZip}
use Rattle.oci_rules.specs.Tables.{rule_of}
use Rattle.oci_commands.specs.RuleTexts.{IsTold, told_pair}
use Rattle.oci_commands.proofs.rules_named.tolds_of.Given as goal

abbrev pub invariant-loop-rule : goal.invariant-loop-rule
invariant-loop-rule l = AllZip IsTold (map (λ r. rule_of r.now) (take l.rule-index l.rule-items)) (map told_pair l.tolds.items)
