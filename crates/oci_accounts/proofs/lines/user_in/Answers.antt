use Rattle.std.proofs.Common.{refl}
use Rattle.oci_accounts.proofs.lines.user_in.Goals as goal

pub returns-in_err-user-clause-none : goal.returns-in_err-user-clause-none
returns-in_err-user-clause-none c = λ _ uid gid. c.in_err-user.ensures.none refl c.args.name.now uid gid
