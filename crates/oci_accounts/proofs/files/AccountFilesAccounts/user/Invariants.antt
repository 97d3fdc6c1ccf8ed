use Rattle.oci_accounts.specs.Lines.{IsForUser}
use Rattle.oci_accounts.proofs.Firsts.{Passed}
use Rattle.oci_accounts.proofs.files.AccountFilesAccounts.user.Given as goal

-- no line so far is for it
abbrev pub invariant-loop-line : goal.invariant-loop-line
invariant-loop-line l = Passed (IsForUser l.name) l.line-items l.line-index
