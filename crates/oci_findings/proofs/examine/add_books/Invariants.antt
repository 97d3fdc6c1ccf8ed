use Rattle.std.proofs.Common.{◌≡◌, ◌++◌, drop}
use Rattle.std.specs.List.{flat_map}
use Rattle.oci_findings.specs.Checks.{rules_for}
use Rattle.oci_findings.proofs.Counted.{rules_in}
use Rattle.oci_findings.proofs.examine.add_books.Given as goal

abbrev pub invariant-loop-book : goal.invariant-loop-book
invariant-loop-book l =
    flat_map rules_in l.found.items ++ rules_for l.kind (drop l.book-index l.books)
    ≡ flat_map rules_in l.initial.found.items ++ rules_for l.kind l.books
