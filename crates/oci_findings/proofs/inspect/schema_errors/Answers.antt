use Rattle.std.proofs.lemmas.Result.{IfOk-weaker}
use Rattle.oci_findings.proofs.inspect.schema_errors.Goals as goal

pub returns : goal.returns
returns c =
    let means = c.in_ok-found.ensures.none in
    IfOk-weaker c.with_other_kind.result _ _ (λ v same. ((λ none. means.0 (same.0 none)), (λ m. same.1 (means.1 m)))) c.with_other_kind.ensures
