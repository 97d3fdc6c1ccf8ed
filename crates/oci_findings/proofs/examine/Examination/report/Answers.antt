use Rattle.std.proofs.Common.{ap, sym, ◌∙◌}
use Rattle.std.proofs.lemmas.Result.{IfOk-weaker}
use Rattle.oci_findings.proofs.Counted.{none_in_both}
use Rattle.oci_findings.proofs.Keys.{keys_found}
use Rattle.oci_findings.proofs.examine.Examination.report.Goals as goal

pub returns : goal.returns
returns g c =
    IfOk-weaker c.new.result _ _
    (λ r same utf8.
    let keys = keys_found c.args.self.now.asked.now c.args.self.now.kind c.args.bytes.now c.in_ok-repeated.repeated.items c.in_ok-of_keys.of_keys.items (c.in_ok-repeated.ensures utf8) c.in_ok-of_keys.ensures in
    let both = none_in_both c.in_ok-of_value.of_value.items c.in_ok-of_keys.of_keys.items c.in_ok-errors.errors.items _ _ c.in_ok-errors.ensures c.in_ok-of_value.ensures keys in
    ((λ none. both.0 (ap (λ v. v.items) (sym same) ∙ none)), (λ m. ap (λ v. v.items) same ∙ both.1 m)))
    c.new.ensures.errors
