use Rattle.std.proofs.Common.{refl}
use Rattle.oci_accounts.proofs.Fields.{user_from, user_id, user_group}
use Rattle.oci_accounts.proofs.lines.user_line.Goals as goal

pub returns-in_err-uid-clause-none : goal.returns-in_err-uid-clause-none
returns-in_err-uid-clause-none c = λ _ name uid gid h. c.in_err-uid.ensures.none refl uid (user_id _ name uid gid h)

pub returns-in_err-gid-clause-none : goal.returns-in_err-gid-clause-none
returns-in_err-gid-clause-none c = λ _ name uid gid h. c.in_err-gid.ensures.none refl gid (user_group _ name uid gid h)

pub returns-clause-some : goal.returns-clause-some
returns-clause-some c = user_from c.args.line.now _ _ _ c.in_ok-name.ensures.some c.in_ok-uid.ensures.some c.in_ok-gid.ensures.some
