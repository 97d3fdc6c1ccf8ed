use Rattle.std.proofs.Common.{inl, inr, ◌∙◌}
use Rattle.std.specs.Prelude.{IfSome}
use Rattle.oci_findings.specs.Checks.{IsRight, IsWrong}
use Rattle.oci_findings.proofs.Each.{next_holds, holds_here}
use Rattle.oci_commands.proofs.Held.{moved}
use Rattle.oci_commands.proofs.check.Checking.check_files.Goals as goal

pub loop-name-preserved : goal.loop-name-preserved
loop-name-preserved g c = record {
  right = λ w u. let (w0, u0, passes) = c.in_ok-check_file.ensures.right w u in
      next_holds (λ f. IfSome (g.S.Files.holds c.args.store.now f.now) (IsRight (g.B.RuleBooks.rules c.args.self.now.books.now) c.args.self.now.asked.now f.now)) c.args.self.now.asked.now.files.now c.loop-name.name-index _ c.loop-name-test.true
      (moved _ _ _ _ c.loop-name.invariant.kept passes) (c.loop-name.invariant.right w0 u0);
  wrong = λ w. elim (c.in_ok-check_file.ensures.wrong w) [
    | inl old ↦ c.loop-name.invariant.wrong old
    | inr refused ↦ (
      c.loop-name.name-index,
      c.loop-name-test.true,
      holds_here (λ f. IfSome (g.S.Files.holds c.args.store.now f.now) (IsWrong (g.B.RuleBooks.rules c.args.self.now.books.now) c.args.self.now.asked.now f.now)) c.args.self.now.asked.now.files.now c.loop-name.name-index _ c.loop-name-test.true
          (moved _ _ _ _ c.loop-name.invariant.kept refused),
    )
  ];
  kept = c.check_file.ensures.kept ∙ c.loop-name.invariant.kept;
}
