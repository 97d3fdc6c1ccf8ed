use Rattle.std.specs.List.{flat_map}
use Rattle.oci_findings.proofs.Books.{book_next}
use Rattle.oci_findings.proofs.Counted.{rules_in}
use Rattle.oci_findings.proofs.examine.add_books.Goals as goal

pub loop-book-preserved : goal.loop-book-preserved
loop-book-preserved c =
    book_next c.args.kind c.args.books.now c.loop-book.book-index _ (flat_map rules_in c.loop-book.found.items) _ _
    c.loop-book-test.true c.in_ok-add_book.ensures c.loop-book.invariant
