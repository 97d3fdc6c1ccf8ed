use Rattle.std.proofs.Common.{◌≡◌, true, true≢false, refl, sym, ◌∙◌, arith, rules}
use Rattle.oci_commands.specs.Texts.{IsFileLine}
use Rattle.oci_commands.proofs.Lines.{appends_none, appends_all, appends_more, line_moved}
use Rattle.oci_commands.proofs.contents.file_digests.Goals.{then-not-branch, else-not-branch, then-unread, else-unread}
use Rattle.oci_commands.proofs.contents.file_digests.Goals as goal

pub loop-name-init : goal.loop-name-init
loop-name-init g c = record {
  done = λ e. appends_none (λ f. IsFileLine c.args.algorithm (g.S.Files.holds c.args.store.now f.now) f.now) c.args.files.now (g.W.Write.contents c.args.writer.now);
  kept = refl;
}

pub loop-name-preserved : goal.loop-name-preserved
loop-name-preserved g c = record {
  done = λ e. elim c.if-not-branch.branch [
    | then-not-branch w ↦ absurd (true≢false (sym w.unread-is ∙ e))
    | else-not-branch w ↦ (
        let yes : c.in_ok-file_digest.field-0 ≡ true = search rules in
        let (line, is, wrote) = c.in_ok-file_digest.ensures.line yes in
        appends_more (λ f. IsFileLine c.args.algorithm (g.S.Files.holds c.args.store.now f.now) f.now) c.args.files.now c.loop-name.name-index _ _ _ _ c.loop-name-test.true (c.loop-name.invariant.done (sym w.unread-is ∙ e))
        (line, line_moved _ _ _ _ line c.loop-name.invariant.kept is, wrote))
  ];
  kept = c.file_digest.ensures.kept ∙ c.loop-name.invariant.kept;
}

pub returns-clause-done : goal.returns-clause-done
returns-clause-done g c = λ zero. elim c.if-unread.branch [
  | then-unread w ↦ (let bad : 3 ≡ 0 = sym w.result-is ∙ zero in absurd (omega arith))
  | else-unread w ↦ appends_all (λ f. IsFileLine c.args.algorithm (g.S.Files.holds c.args.store.now f.now) f.now) c.args.files.now c.loop-name.name-index _ _ (omega arith) (c.loop-name.invariant.done w.if-unread.false)
]
