use Rattle.std.proofs.Common.{sym, ◌∙◌, true≢false}
use Rattle.oci_text.proofs.CapTexts.{of_its_name, none_of_more}
use Rattle.oci_text.proofs.capability.of_any_case.Goals as goal

pub returns-then-eq_ignore_ascii_case-clause-some : goal.returns-then-eq_ignore_ascii_case-clause-some
returns-then-eq_ignore_ascii_case-clause-some c =
    of_its_name c.args.text.now c.as_bytes.result.now _ (c.as_bytes.ensures.value ∙ c.name.ensures) (c.eq_ignore_ascii_case.ensures.test.0 c.if-eq_ignore_ascii_case.true)

pub loop-capability-preserved : goal.loop-capability-preserved
loop-capability-preserved c =
    none_of_more c.args.all.now c.loop-capability.capability-index c.args.text.now c.as_bytes.result.now _ c.loop-capability-test.true (c.as_bytes.ensures.value ∙ c.name.ensures)
    c.loop-capability.invariant (λ e. true≢false (sym (c.eq_ignore_ascii_case.ensures.test.1 e) ∙ c.if-eq_ignore_ascii_case.false))
