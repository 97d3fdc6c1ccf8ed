use Rattle.std.proofs.Common.{◌≡◌, ◌++◌, drop, map}
use Rattle.std.specs.List.{flat_map}
use Rattle.oci_rules.specs.Tables.{rule_of}
use Rattle.oci_commands.proofs.rule_lists.rules_of.Given as goal

abbrev pub invariant-loop-book : goal.invariant-loop-book
invariant-loop-book g l = map (λ r. rule_of r.now) l.rules.items ++ flat_map (λ b. map rule_of b.now) (drop l.book-index l.book-items) ≡ flat_map (λ b. map rule_of b.now) l.book-items
