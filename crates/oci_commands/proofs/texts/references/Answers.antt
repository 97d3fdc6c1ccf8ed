use Rattle.std.proofs.Common.{◌≡◌, true, false, true≢false, sym, ◌∙◌, arith, rules}
use Rattle.oci_findings.proofs.Each.{holds_here}
use Rattle.oci_commands.specs.Refused.{IsNoReference}
use Rattle.oci_commands.specs.Texts.{IsShownReference}
use Rattle.oci_commands.proofs.Lines.{appends_none, appends_all, appends_more}
use Rattle.oci_commands.proofs.texts.references.Goals.{then-not-branch, else-not-branch, then-wrong, else-wrong}
use Rattle.oci_commands.proofs.texts.references.Goals as goal

pub loop-text-init : goal.loop-text-init
loop-text-init g c = record {
  right = λ e. appends_none (λ t. IsShownReference c.args.style t.now) c.args.texts.now (g.W.Write.contents c.args.writer.now);
  wrong = λ e. absurd (true≢false (sym e));
}

pub loop-text-preserved : goal.loop-text-preserved
loop-text-preserved g c =
    elim c.if-not-branch.branch [
      | then-not-branch w ↦ record {
        right = λ e. absurd (true≢false (sym w.wrong-is ∙ e));
        wrong = λ e. let no : c.in_ok-show_reference.field-0 ≡ false = search rules in
            (c.loop-text.text-index, c.loop-text-test.true, holds_here (λ t. IsNoReference t.now) c.args.texts.now c.loop-text.text-index _ c.loop-text-test.true (c.in_ok-show_reference.ensures.wrong no));
      }
      | else-not-branch w ↦ record {
        right = λ e. let yes : c.in_ok-show_reference.field-0 ≡ true = search rules in
            appends_more (λ t. IsShownReference c.args.style t.now) c.args.texts.now c.loop-text.text-index _ _ _ _ c.loop-text-test.true (c.loop-text.invariant.right (sym w.wrong-is ∙ e)) (c.in_ok-show_reference.ensures.right yes);
        wrong = λ e. c.loop-text.invariant.wrong (sym w.wrong-is ∙ e);
      }
    ]

pub returns-clause-right : goal.returns-clause-right
returns-clause-right g c = λ zero. elim c.if-wrong.branch [
  | then-wrong w ↦ (let bad : 1 ≡ 0 = sym w.result-is ∙ zero in absurd (omega arith))
  | else-wrong w ↦ appends_all (λ t. IsShownReference c.args.style t.now) c.args.texts.now c.loop-text.text-index _ _ (omega arith) (c.loop-text.invariant.right w.if-wrong.false)
]
