use Rattle.inflate.specs.Hand.{stream}
use Rattle.gzip.proofs.Members.{at_end}
use Rattle.gzip.proofs.member.at_end.Goals as goal

pub returns-in-Ok : goal.returns-in-Ok
returns-in-Ok g c = λ bytes h.
    at_end c.is_empty.result (stream (g.B.ByteSource.left c.args.source.now) c.args.hand.now) (g.B.ByteSource.left c.refill.new.self) c.refill.new.hand bytes c.is_empty.ensures
    c.in-Ok.ensures.keeps c.in-Ok.ensures.enough h.begins h.below

pub returns-in-Err : goal.returns-in-Err
returns-in-Err g c = λ bytes h refusal. c.in-Err.ensures.failed refusal
