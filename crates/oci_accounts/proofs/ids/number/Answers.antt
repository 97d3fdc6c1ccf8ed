use Rattle.oci_accounts.proofs.Digits.{digits_utf8}
use Rattle.oci_accounts.proofs.ids.number.Goals as goal

-- digits are UTF-8
pub returns-in-Err-clause-none : goal.returns-in-Err-clause-none
returns-in-Err-clause-none c = λ _. absurd (c.in-Err.ensures.cases.0 (digits_utf8 c.args.digits.now c.requires))
