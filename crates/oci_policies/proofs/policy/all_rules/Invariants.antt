use Rattle.std.proofs.Common.{◌≡◌, ◌++◌, drop, map}
use Rattle.oci_policies.specs.Policies.{all_rules}
use Rattle.oci_policies.specs.Steps.{worded, book_view}
use Rattle.oci_policies.proofs.policy.all_rules.Given as goal

-- the rules so far, and those of the books that are left, are all
abbrev pub invariant-loop-book : goal.invariant-loop-book
invariant-loop-book l = map worded l.found.items ++ all_rules (map book_view (drop l.book-index l.books)) ≡ all_rules (map book_view l.books)
