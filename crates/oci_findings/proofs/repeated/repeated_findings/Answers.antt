use Rattle.std.proofs.Common.{◌≡◌, [], subst}
use Rattle.std.specs.Prelude.{◌↔◌, IfOk}
use Rattle.oci_findings.specs.Checks.{HasNamesOnce}
use Rattle.oci_findings.proofs.repeated.repeated_findings.Goals as goal

pub returns-in-Ok : goal.returns-in-Ok
returns-in-Ok c = subst (λ b. IfOk c.findings_in.result (λ v. (v.items ≡ []) ↔ HasNamesOnce b)) c.in-Ok.ensures.cases.0 c.findings_in.ensures
