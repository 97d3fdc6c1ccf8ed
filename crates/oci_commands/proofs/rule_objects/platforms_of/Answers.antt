use Rattle.std.proofs.Common.{map, string_bytes}
use Rattle.oci_rules.specs.Rules.{Rule}
use Rattle.oci_rules.specs.Tables.{rule_of}
use Rattle.oci_commands.specs.RuleTexts.{platform_word}
use Rattle.oci_commands.proofs.Once.{once_next}
use Rattle.oci_commands.proofs.rule_objects.platforms_of.Goals as goal

pub loop-rule-preserved : goal.loop-rule-preserved
loop-rule-preserved c =
    once_next (λ (q : Rule). map platform_word q.platforms) (λ r. rule_of r.now) c.deref-rule-items.result.now c.loop-rule.rule-index _ (map string_bytes c.loop-rule.words.items) _ _
    c.loop-rule-test.true c.in_ok-add_platforms.ensures c.loop-rule.invariant
