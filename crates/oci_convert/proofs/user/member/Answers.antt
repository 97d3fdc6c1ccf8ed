use Rattle.std.proofs.Common.{List, ℕ, Some, sym, subst}
use Rattle.oci_convert.specs.Users.{IsAlone, by_name}
use Rattle.oci_convert.proofs.user.member.Goals as goal

pub returns-clause-ok : goal.returns-clause-ok
returns-clause-ok g c =
    let accounts = c.args.accounts.now in
    let ids = c.in_ok-uid.field-0 in
    subst (λ (gids : List ℕ). IsAlone (g.A.Accounts.is_user accounts) (g.A.Accounts.is_own_group accounts) (g.A.Accounts.is_group accounts) (g.A.Accounts.are_groups accounts) c.args.text.now ids.uid ids.gid (Some gids)) (sym c.in_ok-gids.ensures)
    (by_name c.in_ok-others.others.items c.requires c.in_ok-uid.ensures.ok c.in_ok-others.ensures)
