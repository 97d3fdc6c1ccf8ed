use Rattle.std.proofs.Common.{inl, inr, refl, ◌∙◌, arith}
use Rattle.oci_findings.proofs.Each.{next_holds, holds_here}
use Rattle.oci_commands.specs.Sums.{Matches, Differs}
use Rattle.oci_commands.proofs.Held.{same_files}
use Rattle.oci_commands.proofs.sums.Lists.check_lines.Goals as goal

pub loop-line-preserved : goal.loop-line-preserved
loop-line-preserved g c = record {
  right = λ e. let (old, here) = c.joined_with-found.ensures.right e in
      next_holds (λ t. Matches (g.S.Files.holds c.args.store.now) c.args.self.asked t.now) c.args.entries.now c.loop-line.line-index _ c.loop-line-test.true
      (same_files (λ holds line. Matches holds c.args.self.asked line) _ _ _ c.loop-line.invariant.kept (c.in_ok-of_line.ensures.right here)) (c.loop-line.invariant.right old);
  wrong = λ e. elim (c.joined_with-found.ensures.wrong e) [
    | inl old ↦ c.loop-line.invariant.wrong old
    | inr here ↦ (
      c.loop-line.line-index,
      c.loop-line-test.true,
      holds_here (λ t. Differs (g.S.Files.holds c.args.store.now) c.args.self.asked t.now) c.args.entries.now c.loop-line.line-index _ c.loop-line-test.true
          (same_files (λ holds line. Differs holds c.args.self.asked line) _ _ _ c.loop-line.invariant.kept (c.in_ok-of_line.ensures.wrong here)),
    )
  ];
  kept = c.in_ok-of_line.ensures.kept ∙ c.loop-line.invariant.kept;
}

pub loop-line-init : goal.loop-line-init
loop-line-init g c = record {
  right = λ e k lt. absurd (omega arith);
  wrong = λ e. absurd (cc);
  kept = refl;
}
