use Rattle.std.proofs.Common.{subst}
use Rattle.std.proofs.lemmas.Result.{IfOk-weaker}
use Rattle.oci_archive.specs.Listings.{IsListOf}
use Rattle.oci_archive.proofs.Listed.{listing}
use Rattle.oci_archive.proofs.packed.PackedImageLayout.list.Goals as goal

pub returns : goal.returns
returns g c =
    IfOk-weaker c.list_places.result _ _
    (λ v h. listing (g.S.Source.steady c.args.self.now.source.now) c.args.self.now.index.now.places.items v.items (subst (λ l. IsListOf l v.items) c.as_slice.ensures.value h))
    c.list_places.ensures
