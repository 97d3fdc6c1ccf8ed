use Rattle.std.proofs.Common.{length, ap, arith}
use Rattle.gzip.proofs.ByteByByte.{two_read}
use Rattle.inflate.proofs.Exits.{refused_match}
use Rattle.gzip.proofs.bytes.two_bytes.Goals as goal

pub returns : goal.returns
returns g c = λ bytes h.
    let a = c.in_ok-low.ensures bytes h in
    let b = c.in_ok-high.ensures a.0 a.2 in
    (b.0, two_read bytes a.0 b.0 c.in_ok-low.low c.in_ok-high.high c.from_le_bytes.result h.below a.1 b.1 c.from_le_bytes.ensures, b.2)

pub returns-in_err-low : goal.returns-in_err-low
returns-in_err-low g c = λ bytes h. refused_match c.from_residual.result c.in_err-low.field-0.0 _ _ c.from_residual.ensures.1 (λ refusal. omega (arith, ap length (c.in_err-low.ensures bytes h refusal)))

pub returns-in_err-high : goal.returns-in_err-high
returns-in_err-high g c = λ bytes h. refused_match c.from_residual-in_err-high.result c.in_err-high.field-0.0 _ _ c.from_residual-in_err-high.ensures.1 (λ refusal.
    let a = c.in_ok-low.ensures bytes h in
    omega (arith, ap length a.1, ap length (c.in_err-high.ensures a.0 a.2 refusal)))
