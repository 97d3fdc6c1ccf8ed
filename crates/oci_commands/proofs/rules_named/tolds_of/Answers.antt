use Rattle.std.proofs.Common.{◌∙◌, ap, map, subst}
use Rattle.std.specs.List.{AllZip}
use Rattle.std.proofs.lemmas.List.{take_all}
use Rattle.oci_rules.specs.Tables.{rule_of}
use Rattle.oci_findings.proofs.Each.{map_both}
use Rattle.oci_commands.specs.RuleTexts.{IsTold, told_pair}
use Rattle.oci_commands.proofs.Once.{zip_next}
use Rattle.oci_commands.proofs.rules_named.tolds_of.Goals as goal

pub loop-rule-preserved : goal.loop-rule-preserved
loop-rule-preserved c =
    zip_next IsTold (λ r. rule_of r.now) c.deref-rule-items.result.now c.loop-rule.rule-index _ (map told_pair c.loop-rule.tolds.items) _ (told_pair c.in_ok-told.told) c.loop-rule-test.true
    (ap (map told_pair) c.in_ok-push.ensures.items ∙ map_both told_pair c.loop-rule.tolds.items c.in_ok-told.told) c.loop-rule.invariant c.in_ok-told.ensures

pub returns : goal.returns
returns c =
    subst (λ rs. AllZip IsTold (map (λ r. rule_of r.now) rs) (map told_pair c.loop-rule.tolds.items)) (take_all c.loop-rule.rule-index c.deref-rule-items.result.now c.loop-rule-test.false ∙ c.deref-rule-items.ensures.value)
    c.loop-rule.invariant
