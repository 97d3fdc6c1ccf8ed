use Rattle.std.proofs.Common.{◌≡◌, drop, map}
use Rattle.std.specs.List.{flat_map}
use Rattle.oci_rules.specs.Tables.{rule_of}
use Rattle.oci_commands.specs.Books.{has_rule}
use Rattle.oci_commands.proofs.books.is_rule_for.Given as goal

abbrev pub invariant-loop-book : goal.invariant-loop-book
invariant-loop-book g l =
    has_rule l.name (flat_map (λ b. map rule_of b.now) l.book-items) ≡ has_rule l.name (flat_map (λ b. map rule_of b.now) (drop l.book-index l.book-items))
