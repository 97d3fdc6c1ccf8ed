use Rattle.gunzip.proofs.Appending.{appended}
use Rattle.gunzip.proofs.OutSink.take.Goals as goal

pub returns : goal.returns
returns g c = λ before t e.
    appended (g.W.Write.contents c.args.self.now.writer) (g.W.Write.contents c.write_all.new.self) before t c.args.piece.now e c.in_ok-write_all.ensures.bytes
