use Rattle.std.proofs.Common.{◌≡◌, ◌%◌, ◌^◌, length, arith}
use Rattle.crc32.specs.Step.{crc32}
use Rattle.inflate.proofs.Exits.{refused_match}
use Rattle.gzip.proofs.Members.{trailer_read, trailer_cut, four_long, other_sum, other_size}
use Rattle.gzip.proofs.member.end.Goals as goal

pub returns-in_err-sum : goal.returns-in_err-sum
returns-in_err-sum g c = λ bytes before t h k. refused_match c.from_residual.result c.in_err-sum.field-0.0 _ _ c.from_residual.ensures.1 (λ refusal rest is.
    trailer_cut bytes rest t (omega (arith, c.in_err-sum.ensures bytes h refusal)) is)

pub returns-then-sum-expected : goal.returns-then-sum-expected
returns-then-sum-expected g c = λ bytes before t h k refusal rest is.
    let a = c.in_ok-sum.ensures bytes h in
    let e : c.checksum-expected.result ≡ crc32 t = c.checksum-expected.ensures t k.sum in
    let o = other_sum bytes a.0 rest t c.in_ok-sum.sum (omega arith) (omega (arith, e)) a.1 is in
    omega (arith, o.0, e, c.if-sum-expected.true)

pub returns-in_err-count : goal.returns-in_err-count
returns-in_err-count g c = λ bytes before t h k. refused_match c.from_residual-in_err-count.result c.in_err-count.field-0.0 _ _ c.from_residual-in_err-count.ensures.1 (λ refusal rest is.
    let a = c.in_ok-sum.ensures bytes h in
    trailer_cut bytes rest t (omega (arith, four_long bytes a.0 c.in_ok-sum.sum a.1, c.in_err-count.ensures a.0 a.2 refusal)) is)

pub returns-then-count-length : goal.returns-then-count-length
returns-then-count-length g c = λ bytes before t h k refusal rest is.
    let a = c.in_ok-sum.ensures bytes h in
    let b = c.in_ok-count.ensures a.0 a.2 in
    let e : c.checksum-expected.result ≡ crc32 t = c.checksum-expected.ensures t k.sum in
    let o = other_sum bytes a.0 rest t c.in_ok-sum.sum (omega arith) (omega (arith, e)) a.1 is in
    let s : c.in_ok-count.count ≡ length t % 2 ^ 32 = other_size a.0 b.0 rest c.in_ok-count.count (length t % 2 ^ 32) (omega arith) (omega arith) b.1 o.1 in
    omega (arith, s, k.size, c.if-count-length.true)

pub returns : goal.returns
returns g c = λ bytes before t h k.
    let a = c.in_ok-sum.ensures bytes h in
    let b = c.in_ok-count.ensures a.0 a.2 in
    let e : c.checksum-expected.result ≡ crc32 t = c.checksum-expected.ensures t k.sum in
    let sum : c.in_ok-sum.sum ≡ crc32 t = omega (arith, e, c.if-sum-expected.false) in
    let size : c.in_ok-count.count ≡ length t % 2 ^ 32 = omega (arith, k.size, c.if-count-length.false) in
    (b.0, trailer_read bytes a.0 b.0 t c.in_ok-sum.sum c.in_ok-count.count sum size a.1 b.1, b.2, k.taken)
