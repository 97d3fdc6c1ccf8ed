use Rattle.std.proofs.Common.{rules}
use Rattle.std.proofs.lemmas.Result.{IfOk-weaker}
use Rattle.serde_json.specs.View.{view}
use Rattle.oci_json.specs.Engines.{ReadsAs}
use Rattle.oci_findings.specs.Checks.{IsAsked}
use Rattle.oci_findings.proofs.Allowed.{right_of, wrong_of}
use Rattle.oci_findings.proofs.examine.examine_read.Goals as goal

pub returns-in-Value-clause-right : goal.returns-in-Value-clause-right
returns-in-Value-clause-right g c =
    let asked : IsAsked c.args.asked.now.kind c.args.name.now (view c.in-Value.value) c.in-Value.kind = search rules in
    let reads : ReadsAs c.args.bytes.now (view c.in-Value.value) = search rules in
    IfOk-weaker c.report.result _ _
    (λ r is none. right_of (g.B.RuleBooks.rules c.args.books.now) c.args.asked.now c.args.name.now c.args.bytes.now c.in-Value.kind (view c.in-Value.value) r.errors.items asked reads (is reads.0) none)
    c.report.ensures

pub returns-in-Value-clause-wrong : goal.returns-in-Value-clause-wrong
returns-in-Value-clause-wrong g c =
    let asked : IsAsked c.args.asked.now.kind c.args.name.now (view c.in-Value.value) c.in-Value.kind = search rules in
    let reads : ReadsAs c.args.bytes.now (view c.in-Value.value) = search rules in
    IfOk-weaker c.report.result _ _
    (λ r is some. wrong_of (g.B.RuleBooks.rules c.args.books.now) c.args.asked.now c.args.name.now c.args.bytes.now c.in-Value.kind (view c.in-Value.value) r.errors.items asked reads (is reads.0) some)
    c.report.ensures
