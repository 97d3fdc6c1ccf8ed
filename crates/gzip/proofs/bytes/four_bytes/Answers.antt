use Rattle.std.proofs.Common.{length, ap, arith}
use Rattle.gzip.proofs.ByteByByte.{four_read}
use Rattle.inflate.proofs.Exits.{refused_match}
use Rattle.gzip.proofs.bytes.four_bytes.Goals as goal

pub returns : goal.returns
returns g c = λ bytes h.
    let a = c.in_ok-a.ensures bytes h in
    let b = c.in_ok-b.ensures a.0 a.2 in
    let e = c.in_ok-c.ensures b.0 b.2 in
    let d = c.in_ok-d.ensures e.0 e.2 in
    (d.0, four_read bytes a.0 b.0 e.0 d.0 c.in_ok-a.a c.in_ok-b.b c.in_ok-c.c c.in_ok-d.d c.from_le_bytes.result h.below a.1 b.1 e.1 d.1 c.from_le_bytes.ensures, d.2)

pub returns-in_err-a : goal.returns-in_err-a
returns-in_err-a g c = λ bytes h. refused_match c.from_residual.result c.in_err-a.field-0.0 _ _ c.from_residual.ensures.1 (λ refusal. omega (arith, ap length (c.in_err-a.ensures bytes h refusal)))

pub returns-in_err-b : goal.returns-in_err-b
returns-in_err-b g c = λ bytes h. refused_match c.from_residual-in_err-b.result c.in_err-b.field-0.0 _ _ c.from_residual-in_err-b.ensures.1 (λ refusal.
    let a = c.in_ok-a.ensures bytes h in
    omega (arith, ap length a.1, ap length (c.in_err-b.ensures a.0 a.2 refusal)))

pub returns-in_err-c : goal.returns-in_err-c
returns-in_err-c g c = λ bytes h. refused_match c.from_residual-in_err-c.result c.in_err-c.field-0.0 _ _ c.from_residual-in_err-c.ensures.1 (λ refusal.
    let a = c.in_ok-a.ensures bytes h in
    let b = c.in_ok-b.ensures a.0 a.2 in
    omega (arith, ap length a.1, ap length b.1, ap length (c.in_err-c.ensures b.0 b.2 refusal)))

pub returns-in_err-d : goal.returns-in_err-d
returns-in_err-d g c = λ bytes h. refused_match c.from_residual-in_err-d.result c.in_err-d.field-0.0 _ _ c.from_residual-in_err-d.ensures.1 (λ refusal.
    let a = c.in_ok-a.ensures bytes h in
    let b = c.in_ok-b.ensures a.0 a.2 in
    let e = c.in_ok-c.ensures b.0 b.2 in
    omega (arith, ap length a.1, ap length b.1, ap length e.1, ap length (c.in_err-d.ensures e.0 e.2 refusal)))
