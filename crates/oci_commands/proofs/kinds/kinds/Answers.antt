use Rattle.std.proofs.Common.{None, inl, inr, refl, ◌∙◌, arith}
use Rattle.std.specs.Prelude.{IfSome}
use Rattle.oci_findings.specs.Checks.{HasNoKind}
use Rattle.oci_findings.proofs.Each.{holds_here}
use Rattle.oci_commands.specs.Kinds.{IsKindLine}
use Rattle.oci_commands.proofs.Held.{moved}
use Rattle.oci_commands.proofs.Lines.{appends_none, appends_all, appends_more, known_moved}
use Rattle.oci_commands.proofs.kinds.kinds.Goals as goal

pub loop-name-init : goal.loop-name-init
loop-name-init g c = record {
  done = λ e. appends_none (λ f. IsKindLine c.args.style (g.S.Files.holds c.args.store.now f.now) f.now) c.args.files.now (g.W.Write.contents c.args.writer.now);
  wrong = λ e. absurd (cc);
  kept = refl;
}

pub loop-name-preserved : goal.loop-name-preserved
loop-name-preserved g c = record {
  done = λ e.
      let (old, here) = c.joined_with-found.ensures.right e in
      let (line, is, wrote) = c.in_ok-of_file.ensures.right here in
      appends_more (λ f. IsKindLine c.args.style (g.S.Files.holds c.args.store.now f.now) f.now) c.args.files.now c.loop-name.name-index _ _ _ _ c.loop-name-test.true (c.loop-name.invariant.done old)
      (line, known_moved (IsKindLine c.args.style) _ _ _ line c.loop-name.invariant.kept is, wrote);
  wrong = λ e. elim (c.joined_with-found.ensures.wrong e) [
    | inl old ↦ c.loop-name.invariant.wrong old
    | inr here ↦ (
      c.loop-name.name-index,
      c.loop-name-test.true,
      holds_here (λ f. IfSome (g.S.Files.holds c.args.store.now f.now) (HasNoKind None f.now)) c.args.files.now c.loop-name.name-index _ c.loop-name-test.true
          (moved _ _ _ _ c.loop-name.invariant.kept (c.in_ok-of_file.ensures.wrong here)),
    )
  ];
  kept = c.in_ok-of_file.ensures.kept ∙ c.loop-name.invariant.kept;
}

pub returns-clause-done : goal.returns-clause-done
returns-clause-done g c = λ zero. appends_all (λ f. IsKindLine c.args.style (g.S.Files.holds c.args.store.now f.now) f.now) c.args.files.now c.loop-name.name-index _ _ (omega arith) (c.loop-name.invariant.done (c.status.ensures.right zero))

pub returns-clause-wrong : goal.returns-clause-wrong
returns-clause-wrong g c = λ one. c.loop-name.invariant.wrong (c.status.ensures.wrong one)
