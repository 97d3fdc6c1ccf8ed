use Rattle.std.proofs.Common.{refl}
use Rattle.oci_accounts.proofs.lines.joined_in.Goals as goal

pub returns-in_err-group-clause-none : goal.returns-in_err-group-clause-none
returns-in_err-group-clause-none c = λ _ gid h. c.in_err-group.ensures.none refl h.name gid h.rest h.is_line
