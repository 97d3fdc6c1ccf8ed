use Rattle.oci_rules.specs.Tables.{level_of}
use Rattle.oci_ffi.proofs.Chosen.{book_step}
use Rattle.oci_ffi.proofs.rules.rules_for.Goals as goal

pub loop-book-preserved : goal.loop-book-preserved
loop-book-preserved c = book_step (level_of c.args.last) _ c.loop-book.book-index _ _ _ _ c.loop-book-test.true c.in_ok-add_rules.ensures c.loop-book.invariant
