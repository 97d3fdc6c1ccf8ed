use Rattle.oci_accounts.specs.Lines.{OwnsGroup}
use Rattle.oci_accounts.proofs.Firsts.{Passed}
use Rattle.oci_accounts.proofs.files.AccountFilesAccounts.own_group.Given as goal

-- no line so far is for it
abbrev pub invariant-loop-line : goal.invariant-loop-line
invariant-loop-line l = Passed (OwnsGroup l.uid) l.line-items l.line-index
