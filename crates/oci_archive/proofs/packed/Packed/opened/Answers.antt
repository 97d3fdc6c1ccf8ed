use Rattle.oci_archive.proofs.Opened.{not_read, read_there}
use Rattle.oci_archive.proofs.packed.Packed.opened.Goals as goal

pub returns-in-Err : goal.returns-in-Err
returns-in-Err g c = λ path e.
    not_read g.S.Part.Read.remaining (g.S.Source.steady c.args.self.now.source.now) c.args.self.now.index.now.places.items (g.S.Source.bytes c.args.self.now.source.now) path
    c.args.extent.offset c.args.extent.size c.in-Err.fault c.in-Err.ensures

pub returns-in-Ok : goal.returns-in-Ok
returns-in-Ok g c = λ path e.
    read_there g.S.Part.Read.remaining (g.S.Source.steady c.args.self.now.source.now) c.args.self.now.index.now.places.items (g.S.Source.bytes c.args.self.now.source.now) path
    c.args.extent c.in-Ok.part c.in-Ok.size e c.in-Ok.ensures
