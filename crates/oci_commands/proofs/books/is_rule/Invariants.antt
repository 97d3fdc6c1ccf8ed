use Rattle.std.proofs.Common.{◌≡◌, drop}
use Rattle.std.specs.List.{list_any}
use Rattle.oci_findings.specs.FoundKind.{all_kinds}
use Rattle.oci_commands.specs.Books.{has_rule, is_rule}
use Rattle.oci_commands.proofs.books.is_rule.Given as goal

abbrev pub invariant-loop-kind : goal.invariant-loop-kind
invariant-loop-kind g l = is_rule (g.B.RuleBooks.rules l.books) l.name ≡ list_any (λ kind. has_rule l.name (g.B.RuleBooks.rules l.books kind)) (drop l.kind-index all_kinds)
