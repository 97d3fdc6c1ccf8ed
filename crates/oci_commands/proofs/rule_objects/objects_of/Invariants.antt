use Rattle.std.proofs.Common.{List, ℕ, [], ◌++◌, drop, map, string_bytes}
use Rattle.oci_rules.specs.Tables.{rule_of}
use Rattle.oci_commands.specs.RuleTexts.{IsRuleObject, firsts}
use Rattle.oci_commands.specs.Texts.{Joins}
use Rattle.oci_commands.proofs.rule_objects.objects_of.Given as goal

-- the lines that are still to come, behind those that there are, are those of all
abbrev pub invariant-loop-rule : goal.invariant-loop-rule
invariant-loop-rule l = (rest : List ℕ)
    → Joins (IsRuleObject l.kind (map (λ r. rule_of r.now) l.rules.items)) (firsts (map (λ n. n.now) l.names.items) (map (λ r. rule_of r.now) (drop l.rule-index l.rule-items))) rest
    → Joins (IsRuleObject l.kind (map (λ r. rule_of r.now) l.rules.items)) (firsts [] (map (λ r. rule_of r.now) l.rules.items)) (string_bytes l.text ++ rest)
