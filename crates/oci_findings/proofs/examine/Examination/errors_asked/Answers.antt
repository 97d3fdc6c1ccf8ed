use Rattle.std.proofs.lemmas.Result.{IfOk-weaker}
use Rattle.serde_json.specs.View.{view}
use Rattle.oci_findings.specs.Checks.{counted, denied}
use Rattle.oci_findings.proofs.Counted.{none_counted}
use Rattle.oci_findings.proofs.examine.Examination.errors_asked.Goals as goal

pub returns : goal.returns
returns g c =
    IfOk-weaker c.joined.result _ _
    (λ v is. none_counted c.in_ok-of_rules.of_rules.items c.in_ok-of_members.of_members.items v.items
    (counted (g.B.RuleBooks.rules c.args.self.now.books.now) c.args.self.now.asked.now c.args.self.now.kind (view c.args.value.now)) (denied c.args.self.now.asked.now c.args.self.now.kind (view c.args.value.now)) is
    c.in_ok-of_rules.ensures c.in_ok-of_members.ensures)
    c.joined.ensures
