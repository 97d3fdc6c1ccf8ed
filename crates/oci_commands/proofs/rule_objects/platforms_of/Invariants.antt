use Rattle.std.proofs.Common.{◌≡◌, [], drop, map, string_bytes}
use Rattle.std.specs.List.{flat_map}
use Rattle.oci_rules.specs.Tables.{rule_of}
use Rattle.oci_commands.specs.RuleTexts.{each_once, platform_word}
use Rattle.oci_commands.proofs.rule_objects.platforms_of.Given as goal

abbrev pub invariant-loop-rule : goal.invariant-loop-rule
invariant-loop-rule l =
    each_once (map string_bytes l.words.items) (flat_map (λ q. map platform_word q.platforms) (map (λ r. rule_of r.now) (drop l.rule-index l.rule-items)))
    ≡ each_once [] (flat_map (λ q. map platform_word q.platforms) (map (λ r. rule_of r.now) l.rule-items))
