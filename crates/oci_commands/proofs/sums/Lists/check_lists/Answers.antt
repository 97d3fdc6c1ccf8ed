use Rattle.std.proofs.Common.{inl, inr, refl, ◌∙◌, arith}
use Rattle.std.specs.Prelude.{IfSome}
use Rattle.oci_findings.proofs.Each.{next_holds, holds_here}
use Rattle.oci_commands.specs.Sums.{AllMatch, OneDiffers}
use Rattle.oci_commands.proofs.Held.{same_files}
use Rattle.oci_commands.proofs.sums.Lists.check_lists.Goals as goal

pub loop-file-preserved : goal.loop-file-preserved
loop-file-preserved g c = record {
  right = λ e. let (old, here) = c.joined_with-found.ensures.right e in
      next_holds (λ f. IfSome (g.S.Files.holds c.args.store.now f.now) (AllMatch (g.S.Files.holds c.args.store.now) c.args.self.asked)) c.args.files.now c.loop-file.file-index _ c.loop-file-test.true
      (same_files (λ holds name. IfSome (holds name) (AllMatch holds c.args.self.asked)) _ _ _ c.loop-file.invariant.kept (c.in_ok-of_list.ensures.right here)) (c.loop-file.invariant.right old);
  wrong = λ e. elim (c.joined_with-found.ensures.wrong e) [
    | inl old ↦ c.loop-file.invariant.wrong old
    | inr here ↦ (
      c.loop-file.file-index,
      c.loop-file-test.true,
      holds_here (λ f. IfSome (g.S.Files.holds c.args.store.now f.now) (OneDiffers (g.S.Files.holds c.args.store.now) c.args.self.asked)) c.args.files.now c.loop-file.file-index _ c.loop-file-test.true
          (same_files (λ holds name. IfSome (holds name) (OneDiffers holds c.args.self.asked)) _ _ _ c.loop-file.invariant.kept (c.in_ok-of_list.ensures.wrong here)),
    )
  ];
  kept = c.in_ok-of_list.ensures.kept ∙ c.loop-file.invariant.kept;
}

pub loop-file-init : goal.loop-file-init
loop-file-init g c = record {
  right = λ e k lt. absurd (omega arith);
  wrong = λ e. absurd (cc);
  kept = refl;
}
