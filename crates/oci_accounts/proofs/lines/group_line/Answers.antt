use Rattle.std.proofs.Common.{refl}
use Rattle.oci_accounts.proofs.Fields.{group_from, group_id}
use Rattle.oci_accounts.proofs.lines.group_line.Goals as goal

pub returns-in_err-gid-clause-none : goal.returns-in_err-gid-clause-none
returns-in_err-gid-clause-none c = λ _ name gid rest h. c.in_err-gid.ensures.none refl gid (group_id _ name gid rest h)

pub returns-clause-some : goal.returns-clause-some
returns-clause-some c = group_from c.args.line.now _ _ _ c.in_ok-name.ensures.some c.in_ok-gid.ensures.some c.members_of-members.ensures
