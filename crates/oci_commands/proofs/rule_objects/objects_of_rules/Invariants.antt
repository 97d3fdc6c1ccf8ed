use Rattle.std.proofs.Common.{map, take, string_bytes}
use Rattle.std.specs.Prelude.{option_map}
use Rattle.oci_findings.specs.FoundKind.{all_kinds}
use Rattle.oci_commands.specs.RuleTexts.{AreRuleObjects, chosen}
use Rattle.oci_commands.specs.Texts.{Joins}
use Rattle.oci_commands.proofs.rule_objects.objects_of_rules.Given as goal

abbrev pub invariant-loop-kind : goal.invariant-loop-kind
invariant-loop-kind g l = Joins (λ kind. AreRuleObjects kind (chosen (option_map (λ n. n.now) l.name) (g.B.RuleBooks.rules l.books kind))) (take l.kind-index all_kinds) (string_bytes l.text)
