use Rattle.std.proofs.Common.{sym, ◌∙◌}
use Rattle.oci_saved.proofs.Found.{missing_top, read_top}
use Rattle.oci_saved.proofs.files.Files.read.Goals as goal

pub returns-in-Some : goal.returns-in-Some
returns-in-Some g c =
    read_top c.args.limit (g.S.Source.steady c.args.self.now.source.now) c.args.self.now.index.now.places.items (g.S.Source.bytes c.args.self.now.source.now) c.args.path.now c.in-Some.extent
    c.read_extent.result (sym c.in-Some.is ∙ c.in_ok-extent.ensures) c.read_extent.ensures

pub returns-in-None : goal.returns-in-None
returns-in-None g c =
    missing_top c.args.limit (g.S.Source.steady c.args.self.now.source.now) c.args.self.now.index.now.places.items (g.S.Source.bytes c.args.self.now.source.now) c.args.path.now
    (sym c.in-None.is ∙ c.in_ok-extent.ensures)
