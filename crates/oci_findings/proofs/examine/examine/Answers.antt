use Rattle.oci_findings.proofs.Allowed.{in_any}
use Rattle.oci_findings.proofs.examine.examine.Goals as goal

pub returns-then-is_right-clause-right : goal.returns-then-is_right-clause-right
returns-then-is_right-clause-right g c = in_any c.new-then-is_right-2.result (λ r none. c.is_right.ensures c.if-is_right.true (g.B.RuleBooks.rules c.args.books.now))
