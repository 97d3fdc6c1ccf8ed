use Rattle.std.proofs.Common.{subst}
use Rattle.std.proofs.lemmas.Result.{IfOk-weaker}
use Rattle.oci_findings.specs.Repeated.{AreRepeated}
use Rattle.oci_findings.proofs.repeated.repeated_if_any.Goals as goal

pub returns-in-Ok : goal.returns-in-Ok
returns-in-Ok c = IfOk-weaker c.repeated_in.result _ _ (λ v are utf8. subst (λ b. AreRepeated b v.items) c.in-Ok.ensures.cases.0 are) c.repeated_in.ensures

pub returns-in-Err : goal.returns-in-Err
returns-in-Err c = λ utf8. absurd (c.in-Err.ensures.cases.0 utf8)
