use Rattle.std.proofs.Common.{◌≡◌, ◌++◌, drop}
use Rattle.std.specs.List.{flat_map}
use Rattle.oci_rule_books.proofs.kinds.collected.Given as goal

-- what was put, and what is still to be put, is all
abbrev pub invariant-loop-book : goal.invariant-loop-book
invariant-loop-book l = l.out.items ++ flat_map (λ b. b.now) (drop l.book-index l.books) ≡ flat_map (λ b. b.now) l.books
