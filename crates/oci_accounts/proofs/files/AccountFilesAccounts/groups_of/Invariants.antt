use Rattle.oci_accounts.proofs.Firsts.{Gathers}
use Rattle.oci_accounts.proofs.files.AccountFilesAccounts.groups_of.Given as goal

-- these are the groups of the lines so far
abbrev pub invariant-loop-line : goal.invariant-loop-line
invariant-loop-line l = Gathers l.name l.line-items l.line-index l.gids.items
