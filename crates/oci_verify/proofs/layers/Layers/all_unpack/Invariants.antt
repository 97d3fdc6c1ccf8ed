use Rattle.std.specs.Prelude.{◌↔◌, IsTrue}
use Rattle.oci_verify.specs.Images.{OverContents}
use Rattle.oci_verify.proofs.Unpacking.{UnpackBelow}
use Rattle.oci_verify.proofs.layers.Layers.all_unpack.Given as goal

abbrev pub invariant-each : goal.invariant-each
invariant-each g l =
    OverContents (g.S.Store.steady l.self.documents.now.store.now) (g.S.Store.contents l.self.documents.now.store.now)
    (λ k. IsTrue l.all ↔ UnpackBelow l.self.asked.now k l.layers.items l.ids.items l.place)
