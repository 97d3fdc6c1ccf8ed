use Rattle.std.proofs.Common.{List, ℕ, Bor, subst}
use Rattle.oci_accounts.specs.Files.{AreGroups}
use Rattle.oci_accounts.proofs.Firsts.{from, gathers_more, gathers_all}
use Rattle.oci_accounts.proofs.files.AccountFilesAccounts.groups_of.Goals as goal

pub loop-line-preserved : goal.loop-line-preserved
loop-line-preserved c = gathers_more c.args.name.now c.deref-line-items.result.now c.loop-line.line-index _ c.loop-line.gids.items _ c.loop-line-test.true c.in_ok-add_group.ensures c.loop-line.invariant

pub returns : goal.returns
returns c =
    subst (λ (lines : List (Bor (List ℕ))). AreGroups c.args.name.now (from lines 0) c.loop-line.gids.items) c.deref-line-items.ensures.value
    (gathers_all c.args.name.now c.deref-line-items.result.now c.loop-line.line-index c.loop-line.gids.items c.loop-line-test.false c.loop-line.invariant)
