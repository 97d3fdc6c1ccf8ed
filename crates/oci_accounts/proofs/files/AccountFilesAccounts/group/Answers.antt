use Rattle.std.proofs.Common.{ℕ, List, Bor, refl, sym, subst}
use Rattle.oci_accounts.specs.Files.{First}
use Rattle.oci_accounts.specs.Lines.{IsForGroup}
use Rattle.oci_accounts.proofs.Firsts.{from, finds, passes, ends}
use Rattle.oci_accounts.proofs.files.AccountFilesAccounts.group.Goals as goal

pub returns-in-Some-clause-some : goal.returns-in-Some-clause-some
returns-in-Some-clause-some c =
    subst (λ (lines : List (Bor (List ℕ))). First (IsForGroup c.args.name.now) (from lines 0) c.in-Some.gid) c.deref-line-items.ensures.value
    (finds (IsForGroup c.args.name.now) c.deref-line-items.result.now c.loop-line.line-index _ c.in-Some.gid c.loop-line-test.true c.in-Some.ensures.some c.loop-line.invariant)

pub loop-line-preserved : goal.loop-line-preserved
loop-line-preserved c = passes (IsForGroup c.args.name.now) c.deref-line-items.result.now c.loop-line.line-index _ c.loop-line-test.true (c.in_default.ensures.none refl) c.loop-line.invariant

pub returns-clause-none : goal.returns-clause-none
returns-clause-none c = λ _ gid h.
    ends (IsForGroup c.args.name.now) c.deref-line-items.result.now c.loop-line.line-index c.loop-line-test.false c.loop-line.invariant gid
    (subst (λ (lines : List (Bor (List ℕ))). First (IsForGroup c.args.name.now) (from lines 0) gid) (sym c.deref-line-items.ensures.value) h)
