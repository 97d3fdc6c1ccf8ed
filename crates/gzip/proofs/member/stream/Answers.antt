use Rattle.std.proofs.Common.{◌≡◌, ◌+◌, ◌%◌, ◌^◌, ◌++◌, [], length, ◌∙◌, sym, arith}
use Rattle.deflate.specs.Bits.{bits, bits_of}
use Rattle.deflate.proofs.Packing.{length-bits}
use Rattle.deflate.proofs.UniqueBlocks.{length-numbers}
use Rattle.inflate.proofs.Streams.{odd_bits}
use Rattle.inflate.proofs.Blocks.{skipped_stream}
use Rattle.gzip.proofs.Streams.{IsDenoted, denoted}
use Rattle.gzip.proofs.member.stream.Goals as goal

pub returns-in-Ok : goal.returns-in-Ok
returns-in-Ok g c = λ bytes before h k.
    let whole : (0 + length (bits_of bytes)) % 8 ≡ 0 = omega (arith, length-numbers 8 bytes) in
    let w = c.in-Ok.ensures 0 before (bits_of bytes) [] whole h.begins k in
    let left = g.B.ByteSource.left c.inflate.new.source in
    let hand = c.inflate.new.hand in
    let odd = hand.count % 8 in
    let padding = bits odd (hand.value % 2 ^ odd) in
    let q = skipped_stream left hand c.skip.new.self padding w.0 w.2 c.skip.ensures.rest in
    let d : IsDenoted bytes w.1 left c.skip.new.self =
    denoted bytes w.0 padding w.1 left c.skip.new.self h.below w.4 (length-bits odd (hand.value % 2 ^ odd) ∙ sym (odd_bits left hand w.0 w.2)) q in
    (w.1, d.rest, d.denotes, d.left_is, w.3)

pub returns-in-Err : goal.returns-in-Err
returns-in-Err g c = λ bytes before h k refusal text rest is.
    let whole : (0 + length (bits_of bytes)) % 8 ≡ 0 = omega (arith, length-numbers 8 bytes) in
    c.in-Err.ensures 0 before (bits_of bytes) [] whole h.begins k refusal (is.1 ++ bits_of rest) text (record { blocks = is.0; are = is.3 })
