use Rattle.std.proofs.Common.{take, string_bytes}
use Rattle.oci_findings.specs.FoundKind.{all_kinds}
use Rattle.oci_commands.specs.RuleTexts.{IsToldOfKind, named}
use Rattle.oci_commands.specs.Texts.{Joins}
use Rattle.oci_commands.proofs.rules_named.told_of_name.Given as goal

abbrev pub invariant-loop-kind : goal.invariant-loop-kind
invariant-loop-kind g l = Joins (λ kind. IsToldOfKind (named l.name (g.B.RuleBooks.rules l.books kind))) (take l.kind-index all_kinds) (string_bytes l.text)
