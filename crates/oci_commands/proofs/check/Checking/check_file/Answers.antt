use Rattle.std.proofs.Common.{inl, inr, sym, ◌∙◌, subst}
use Rattle.std.proofs.lemmas.Result.{on_ok_weaker}
use Rattle.oci_findings.specs.Checks.{IsRight, IsWrong}
use Rattle.oci_commands.proofs.Held.{held}
use Rattle.oci_commands.proofs.check.Checking.check_file.Goals as goal

pub returns-in-Ok-clause-wrong : goal.returns-in-Ok-clause-wrong
returns-in-Ok-clause-wrong g c =
    on_ok_weaker c.check_bytes.result
    (λ found wrong. elim (found wrong) [
      | inl old ↦ inl old
      | inr refused ↦ inr (held (IsWrong (g.B.RuleBooks.rules c.args.self.now.books.now) c.args.self.now.asked.now c.args.name.now) (g.S.Files.holds c.args.store.now c.args.name.now) c.in-Ok.bytes.items c.in-Ok.ensures.bytes
          (subst (IsWrong (g.B.RuleBooks.rules c.args.self.now.books.now) c.args.self.now.asked.now c.args.name.now) c.as_slice.ensures.value refused))
    ])
    c.check_bytes.ensures.wrong

pub returns-in-Ok-clause-right : goal.returns-in-Ok-clause-right
returns-in-Ok-clause-right g c =
    on_ok_weaker c.check_bytes.result
    (λ found w u. let (same, old, allowed) = found w in (
      old,
      sym same ∙ u,
      held (IsRight (g.B.RuleBooks.rules c.args.self.now.books.now) c.args.self.now.asked.now c.args.name.now) (g.S.Files.holds c.args.store.now c.args.name.now) c.in-Ok.bytes.items c.in-Ok.ensures.bytes
          (subst (IsRight (g.B.RuleBooks.rules c.args.self.now.books.now) c.args.self.now.asked.now c.args.name.now) c.as_slice.ensures.value allowed),
    ))
    c.check_bytes.ensures.right
