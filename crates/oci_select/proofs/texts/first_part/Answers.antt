use Rattle.std.proofs.Common.{sym, subst}
use Rattle.oci_select.specs.Texts.{IsPart}
use Rattle.oci_select.proofs.Slashes.{no_first, the_first}
use Rattle.oci_select.proofs.texts.first_part.Goals as goal

pub returns-in_err-part-clause-none : goal.returns-in_err-part-clause-none
returns-in_err-part-clause-none c = λ _ part rest h. no_first c.args.text.now part rest c.in_err-part.ensures.cases h

pub returns-else-is_part-clause-none : goal.returns-else-is_part-clause-none
returns-else-is_part-clause-none c = λ _ part rest h e.
    let cut = c.in_ok-part in
    cc (c.is_part.ensures.1 (subst IsPart (sym (the_first c.args.text.now part rest (cut.part, cut.rest) cut.ensures.cases h e)) h), c.if-is_part.false)
