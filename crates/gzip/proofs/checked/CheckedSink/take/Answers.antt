use Rattle.std.proofs.Common.{◌≡◌, ◌+◌, ◌%◌, ◌^◌, ◌++◌, [], length, subst, arith}
use Rattle.std.specs.Int.Bits.{bit_and}
use Rattle.std.proofs.lemmas.Nat.{and_mask}
use Rattle.std.proofs.lemmas.List.{append_assoc, length-append}
use Rattle.gzip.proofs.checked.CheckedSink.take.Goals as goal

pub returns : goal.returns
returns g c = λ before t h.
    let piece = c.args.piece.now in
    let m : bit_and (length piece) 4294967295 ≡ length piece % 2 ^ 32 = and_mask (length piece) 32 in
    let n : length (t ++ piece) ≡ length t + length piece = length-append t piece in
    record {
      taken = subst (g.S.Sink.holds c.take.new.self []) (append_assoc before t piece) (c.in_ok-take.ensures [] (before ++ t) h.taken);
      sum = c.update.ensures t h.sum;
      size = omega (arith, m, n, h.size);
    }
