use Rattle.deflate.specs.Bits.{bits, bits_of}
use Rattle.inflate.specs.Hand.{stream}
use Rattle.inflate.proofs.Streams.{IsRead, consumed}
use Rattle.gzip.proofs.ByteByByte.{byte_read, no_byte}
use Rattle.gzip.proofs.bytes.byte.Goals as goal

pub returns-in-Ok : goal.returns-in-Ok
returns-in-Ok g c = λ bytes h.
    let v = c.in-Ok.value in
    let a0 = stream (g.S.ByteSource.left c.args.source.now) c.args.hand.now in
    let a1 = stream (g.S.ByteSource.left c.number.new.source) c.number.new.hand in
    let q : IsRead a1 (bits 8 v) (bits_of bytes) = consumed a0 a1 (bits 8 v) (bits_of bytes) c.in-Ok.ensures.read h.begins in
    byte_read v (g.S.ByteSource.left c.number.new.source) c.number.new.hand bytes h.below c.in-Ok.ensures.fits q

pub returns-in-Err : goal.returns-in-Err
returns-in-Err g c = λ bytes h refusal. no_byte bytes (c.in-Err.ensures.refused refusal (bits_of bytes) h.begins)
