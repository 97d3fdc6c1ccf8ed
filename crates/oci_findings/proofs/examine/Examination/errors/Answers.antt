use Rattle.std.proofs.lemmas.Result.{IfOk-weaker}
use Rattle.oci_findings.proofs.Counted.{none_in_both}
use Rattle.oci_findings.proofs.examine.Examination.errors.Goals as goal

pub returns : goal.returns
returns g c =
    IfOk-weaker c.joined.result _ _ (λ v is. none_in_both c.in_ok-of_schema.of_schema.items c.in_ok-of_asked.of_asked.items v.items _ _ is c.in_ok-of_schema.ensures c.in_ok-of_asked.ensures) c.joined.ensures
