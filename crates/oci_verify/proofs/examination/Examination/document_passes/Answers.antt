use Rattle.oci_verify.proofs.Passing.{empty_told, passes_told}
use Rattle.oci_verify.proofs.examination.Examination.document_passes.Goals as goal

pub returns : goal.returns
returns g c =
    let errors = c.in_ok-report.report.errors in
    let none = c.is_empty-passes.result in
    let document = c.args.document.now in
    passes_told (g.B.RuleBooks.rules c.args.self.now.books.now) c.args.self.now.asked.now document.kind document.path.now document.bytes.now errors.items none
    (empty_told errors.items _ none errors.ok.0 c.is_empty-passes.ensures) c.in_ok-report.ensures.right c.in_ok-report.ensures.wrong
