use Rattle.std.proofs.Common.{ℕ, List, Bor, refl, sym, subst}
use Rattle.oci_accounts.specs.Files.{First}
use Rattle.oci_accounts.specs.Lines.{OwnsGroup}
use Rattle.oci_accounts.proofs.Firsts.{from, finds, passes, ends}
use Rattle.oci_accounts.proofs.files.AccountFilesAccounts.own_group.Goals as goal

pub returns-in-Some-clause-some : goal.returns-in-Some-clause-some
returns-in-Some-clause-some c =
    subst (λ (lines : List (Bor (List ℕ))). First (OwnsGroup c.args.uid) (from lines 0) c.in-Some.gid) c.deref-line-items.ensures.value
    (finds (OwnsGroup c.args.uid) c.deref-line-items.result.now c.loop-line.line-index _ c.in-Some.gid c.loop-line-test.true c.in-Some.ensures.some c.loop-line.invariant)

pub loop-line-preserved : goal.loop-line-preserved
loop-line-preserved c = passes (OwnsGroup c.args.uid) c.deref-line-items.result.now c.loop-line.line-index _ c.loop-line-test.true (c.in_default.ensures.none refl) c.loop-line.invariant

pub returns-clause-none : goal.returns-clause-none
returns-clause-none c = λ _ gid h.
    ends (OwnsGroup c.args.uid) c.deref-line-items.result.now c.loop-line.line-index c.loop-line-test.false c.loop-line.invariant gid
    (subst (λ (lines : List (Bor (List ℕ))). First (OwnsGroup c.args.uid) (from lines 0) gid) (sym c.deref-line-items.ensures.value) h)
