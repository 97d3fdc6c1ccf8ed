use Rattle.serde_json.specs.View.{view}
use Rattle.oci_saved.specs.Facts.{Adds, HasConfig, IsSoAt}
use Rattle.oci_saved.specs.Files.{files_at, OverFiles}
use Rattle.oci_saved.specs.Saved.{diff_ids_of, layers_of}
use Rattle.oci_saved.proofs.Layers.{AreLayersTo}
use Rattle.oci_saved.proofs.check.Check.add_layers.Given as goal

abbrev pub invariant-each : goal.invariant-each
invariant-each g l =
    OverFiles (g.S.Source.steady l.self.files.now.source.now) (files_at l.self.files.now.index.now.places.items (g.S.Source.bytes l.self.files.now.source.now))
    (λ f. HasConfig l.self.limit f (view l.item) (view l.config) → Adds (IsSoAt l.self.limit f l.at (view l.item)) (AreLayersTo f (layers_of (view l.item)) (diff_ids_of (view l.config)) l.place) l.fn.found.items l.found.items)
