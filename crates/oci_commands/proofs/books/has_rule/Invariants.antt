use Rattle.std.proofs.Common.{◌≡◌, drop, map}
use Rattle.oci_rules.specs.Tables.{rule_of}
use Rattle.oci_commands.specs.Books.{has_rule}
use Rattle.oci_commands.proofs.books.has_rule.Given as goal

abbrev pub invariant-loop-rule : goal.invariant-loop-rule
invariant-loop-rule l = has_rule l.name (map rule_of l.book) ≡ has_rule l.name (map rule_of (drop l.rule-index l.book))
