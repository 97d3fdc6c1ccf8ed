use Rattle.oci_accounts.specs.Lines.{IsForGroup}
use Rattle.oci_accounts.proofs.Firsts.{Passed}
use Rattle.oci_accounts.proofs.files.AccountFilesAccounts.group.Given as goal

-- no line so far is for it
abbrev pub invariant-loop-line : goal.invariant-loop-line
invariant-loop-line l = Passed (IsForGroup l.name) l.line-items l.line-index
