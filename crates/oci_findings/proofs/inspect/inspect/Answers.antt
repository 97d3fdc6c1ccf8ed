use Rattle.std.proofs.Common.{ap, sym, ◌∙◌, rules}
use Rattle.std.proofs.lemmas.Result.{IfOk-weaker}
use Rattle.serde_json.specs.View.{view}
use Rattle.oci_json.specs.Engines.{ReadsAs}
use Rattle.oci_findings.specs.Checks.{IsAsked}
use Rattle.oci_findings.proofs.Allowed.{allowed_of, none_of}
use Rattle.oci_findings.proofs.inspect.inspect.Goals as goal

pub returns-in_ok-errors-in-Value-clause-allowed : goal.returns-in_ok-errors-in-Value-clause-allowed
returns-in_ok-errors-in-Value-clause-allowed c =
    let asked : IsAsked c.args.kind c.args.name.now (view c.in-Value.value) c.in-Value.found = search rules in
    let reads : ReadsAs c.args.bytes.now (view c.in-Value.value) = search rules in
    let both = c.in_ok-errors-in-Value.ensures in
    IfOk-weaker c.new-in-Value.result _ _
    (λ r same. allowed_of c.args.kind c.args.name.now c.args.bytes.now c.in-Value.found (view c.in-Value.value) r.errors.items asked reads
    ((λ none. both.0 (ap (λ v. v.items) (sym same) ∙ none)), (λ m. ap (λ v. v.items) same ∙ both.1 m)))
    c.new-in-Value.ensures.errors

pub returns-in_ok-errors-in-Value-clause-all : goal.returns-in_ok-errors-in-Value-clause-all
returns-in_ok-errors-in-Value-clause-all c =
    let asked : IsAsked c.args.kind c.args.name.now (view c.in-Value.value) c.in-Value.found = search rules in
    let reads : ReadsAs c.args.bytes.now (view c.in-Value.value) = search rules in
    let both = c.in_ok-errors-in-Value.ensures in
    IfOk-weaker c.new-in-Value.result _ _
    (λ r same. none_of c.args.kind c.args.name.now c.args.bytes.now c.in-Value.found (view c.in-Value.value) r.errors.items asked reads
    ((λ none. both.0 (ap (λ v. v.items) (sym same) ∙ none)), (λ m. ap (λ v. v.items) same ∙ both.1 m)))
    c.new-in-Value.ensures.errors
