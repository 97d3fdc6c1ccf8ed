use Rattle.std.proofs.Common.{◌≡◌, Some, inl, inr, sym, subst}
use Rattle.std.proofs.lemmas.Result.{IfOk-weaker}
use Rattle.oci_findings.specs.Checks.{IsKindIn}
use Rattle.oci_commands.proofs.Held.{put_kept}
use Rattle.oci_commands.proofs.canonical.Formatting.finish.Goals as goal

pub returns-then-changes-clause-refused : goal.returns-then-changes-clause-refused
returns-then-changes-clause-refused g c = λ one. inr (inl (c.in_ok-changes.ensures.changed c.if-changes.true))

pub returns-clause-refused : goal.returns-clause-refused
returns-clause-refused g c = IfOk-weaker c.put.result _ _ (λ s differs one. inr (inr (differs one))) c.put.ensures.differs

pub returns-clause-kept : goal.returns-clause-kept
returns-clause-kept g c =
    IfOk-weaker c.put.result _ _ (λ s status zero checks file unasked. c.in_ok-loses.ensures.kept c.if-loses.false checks file unasked) c.put.ensures.status

pub returns-clause-put : goal.returns-clause-put
returns-clause-put g c =
    let a = c.args.self.now.asked.now in
    let kind = c.args.kind in
    IfOk-weaker c.put.result _ _
    (λ s put zero checks. put_kept (g.S.Files.holds c.put.new.store) a.output (λ b. b ≡ c.args.text.now) (λ b. IsKindIn a.kind a.file.now (Some b) kind × (b ≡ c.args.text.now))
    (λ file b is. (subst (λ t. IsKindIn a.kind a.file.now (Some t) kind) (sym is) (c.in_ok-changes.ensures.same c.if-changes.false checks file), is)) (put zero checks))
    c.put.ensures.put
