use Rattle.std.proofs.Common.{map}
use Rattle.serde_json.specs.View.{view}
use Rattle.oci_saved.specs.Facts.{Adds, IsSoOf}
use Rattle.oci_saved.specs.Files.{files_at, OverFiles}
use Rattle.oci_saved.proofs.Images.{AreImagesTo}
use Rattle.oci_saved.proofs.check.Check.add_items.Given as goal

abbrev pub invariant-each : goal.invariant-each
invariant-each g l =
    OverFiles (g.S.Source.steady l.self.files.now.source.now) (files_at l.self.files.now.index.now.places.items (g.S.Source.bytes l.self.files.now.source.now))
    (λ f. Adds (IsSoOf l.self.limit f (map view l.items)) (AreImagesTo l.self.limit f (map view l.items) l.at) l.fn.found.items l.found.items)
