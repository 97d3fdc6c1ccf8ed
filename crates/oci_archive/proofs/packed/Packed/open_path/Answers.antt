use Rattle.std.proofs.Common.{sym, ◌∙◌}
use Rattle.oci_archive.proofs.Opened.{nothing_there}
use Rattle.oci_archive.proofs.packed.Packed.open_path.Goals as goal

pub returns-in-None : goal.returns-in-None
returns-in-None g c =
    nothing_there g.S.Part.Read.remaining (g.S.Source.steady c.args.self.now.source.now) c.args.self.now.index.now.places.items (g.S.Source.bytes c.args.self.now.source.now) c.args.path.now
    (sym c.in-None.is ∙ c.in_ok-found.ensures)

pub returns-in-Some : goal.returns-in-Some
returns-in-Some g c = c.opened.ensures c.args.path.now (sym c.in-Some.is ∙ c.in_ok-found.ensures)
