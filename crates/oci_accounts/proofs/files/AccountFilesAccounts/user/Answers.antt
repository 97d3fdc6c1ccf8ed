use Rattle.std.proofs.Common.{ℕ, List, Bor, refl, sym, subst}
use Rattle.oci_accounts.specs.Files.{First}
use Rattle.oci_accounts.specs.Lines.{IsForUser}
use Rattle.oci_accounts.proofs.Firsts.{from, finds, passes, ends}
use Rattle.oci_accounts.proofs.files.AccountFilesAccounts.user.Goals as goal

pub returns-in-Some-clause-some : goal.returns-in-Some-clause-some
returns-in-Some-clause-some c =
    subst (λ (lines : List (Bor (List ℕ))). First (IsForUser c.args.name.now) (from lines 0) (c.in-Some.ids.uid, c.in-Some.ids.gid)) c.deref-line-items.ensures.value
    (finds (IsForUser c.args.name.now) c.deref-line-items.result.now c.loop-line.line-index _ (c.in-Some.ids.uid, c.in-Some.ids.gid) c.loop-line-test.true c.in-Some.ensures.some c.loop-line.invariant)

pub loop-line-preserved : goal.loop-line-preserved
loop-line-preserved c = passes (IsForUser c.args.name.now) c.deref-line-items.result.now c.loop-line.line-index _ c.loop-line-test.true (λ ids. c.in_default.ensures.none refl ids.0 ids.1) c.loop-line.invariant

pub returns-clause-none : goal.returns-clause-none
returns-clause-none c = λ _ uid gid h.
    ends (IsForUser c.args.name.now) c.deref-line-items.result.now c.loop-line.line-index c.loop-line-test.false c.loop-line.invariant (uid, gid)
    (subst (λ (lines : List (Bor (List ℕ))). First (IsForUser c.args.name.now) (from lines 0) (uid, gid)) (sym c.deref-line-items.ensures.value) h)
