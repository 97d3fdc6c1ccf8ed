use Rattle.std.proofs.Common.{sym, subst}
use Rattle.std.proofs.lemmas.Result.{IfOk-weaker}
use Rattle.oci_layout.specs.Names.{IsPathOf}
use Rattle.oci_archive.proofs.Opened.{by_digest}
use Rattle.oci_archive.proofs.packed.PackedStore.open.Goals as goal

pub returns : goal.returns
returns g c =
    IfOk-weaker c.open_path.result _ _
    (λ o h. by_digest g.S.Part.Read.remaining (g.S.Source.steady c.args.self.now.source.now) c.args.self.now.index.now.places.items (g.S.Source.bytes c.args.self.now.source.now)
    c.args.digest.now c.as_str.result.now o (subst (λ p. IsPathOf c.args.digest.now p) (sym c.as_str.ensures.value) c.in_ok-path.ensures.path) h)
    c.open_path.ensures
