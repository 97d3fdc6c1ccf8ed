use Rattle.std.proofs.Common.{◌≡◌, [], ◌∷◌, ◌++◌, subst, refl}
use Rattle.oci_json.specs.Engines.{AppendsSome}
use Rattle.oci_doc_run.specs.Refusals.{line_of}
use Rattle.oci_doc_run.proofs.Begun.{begun}
use Rattle.oci_doc_run.proofs.refusal.Refusal.report.Goals as goal

pub returns : goal.returns
returns g c =
    let same : c.mark.result.now ++ (c.reason.result.now ++ 10 ∷ []) ≡ line_of c.args.self.now = rw (c.mark.ensures, c.reason.ensures) refl in
    subst (AppendsSome (g.E.Write.contents c.args.errors.now) (g.E.Write.contents c.write_line.new.errors)) same
    (begun c.write_line.result _ _ _ c.write_line.ensures.ok c.write_line.ensures.err)
