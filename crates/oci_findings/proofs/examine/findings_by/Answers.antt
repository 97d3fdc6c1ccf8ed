use Rattle.serde_json.specs.View.{view}
use Rattle.oci_rules.specs.Tables.{platform_of}
use Rattle.oci_findings.specs.Checks.{is_error}
use Rattle.oci_findings.proofs.Counted.{book_more}
use Rattle.oci_findings.proofs.examine.findings_by.Goals as goal

pub loop-book-preserved : goal.loop-book-preserved
loop-book-preserved c =
    book_more (λ x. is_error c.args.asked.now x.0) (platform_of c.args.platform) (view c.args.value.now) _ c.loop-book.found.items c.deref-book-items.result.now c.loop-book.book-index _ c.in_ok-listed.listed.items
    c.loop-book-test.true c.in_ok-listed.ensures.all c.in_ok-add_counted.ensures c.loop-book.invariant
