use Rattle.std.proofs.Common.{refl}
use Rattle.oci_accounts.proofs.lines.own_group_in.Goals as goal

pub returns-in_err-user-clause-none : goal.returns-in_err-user-clause-none
returns-in_err-user-clause-none c = λ _ gid h. c.in_err-user.ensures.none refl h.name c.args.uid gid h.is_line
