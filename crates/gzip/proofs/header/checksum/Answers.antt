use Rattle.std.proofs.Common.{◌≡◌, ◌%◌, ◌^◌, refl, ap, ◌∙◌, sym, subst, arith}
use Rattle.std.specs.Int.Bits.{bit_and}
use Rattle.std.proofs.lemmas.Nat.{and_mask}
use Rattle.crc32.specs.Step.{crc32}
use Rattle.gzip.specs.Reading.{IsChecksum}
use Rattle.gzip.proofs.Heads.{sum_read, sum_cut, sum_other}
use Rattle.inflate.proofs.Exits.{refused_match}
use Rattle.gzip.proofs.header.checksum.Goals as goal

pub returns-then-not-is_there : goal.returns-then-not-is_there
returns-then-not-is_there g c = λ bytes m h k. (bytes, subst (λ b. IsChecksum b m bytes bytes) (sym c.if-not-is_there.true) refl, h)

pub returns-in_err-found : goal.returns-in_err-found
returns-in_err-found g c = λ bytes m h k. refused_match c.from_residual.result c.in_err-found.field-0.0 _ _ c.from_residual.ensures.1 (λ refusal rest is.
    sum_cut m bytes rest (c.in_err-found.ensures bytes h refusal) (subst (λ b. IsChecksum b m bytes rest) c.if-not-is_there.false is))

pub returns-then-from-expected : goal.returns-then-from-expected
returns-then-from-expected g c = λ bytes m h k refusal rest is.
    let a = c.in_ok-found.ensures bytes h in
    let e : bit_and c.checksum-expected.result 65535 ≡ crc32 m % 2 ^ 16 = and_mask c.checksum-expected.result 16 ∙ ap (λ v. v % 2 ^ 16) (c.checksum-expected.ensures m k) in
    let o : c.in_ok-found.found ≡ crc32 m % 2 ^ 16 = sum_other m bytes a.0 rest c.in_ok-found.found (omega arith) a.1 (subst (λ b. IsChecksum b m bytes rest) c.if-not-is_there.false is) in
    c.if-from-expected.true (c.from.ensures ∙ o ∙ sym e)

pub returns : goal.returns
returns g c = λ bytes m h k.
    let a = c.in_ok-found.ensures bytes h in
    let e : bit_and c.checksum-expected.result 65535 ≡ crc32 m % 2 ^ 16 = and_mask c.checksum-expected.result 16 ∙ ap (λ v. v % 2 ^ 16) (c.checksum-expected.ensures m k) in
    let o : c.in_ok-found.found ≡ crc32 m % 2 ^ 16 = omega (arith, c.from.ensures, e) in
    (a.0, subst (λ b. IsChecksum b m bytes a.0) (sym c.if-not-is_there.false) (sum_read m bytes a.0 c.in_ok-found.found o a.1), a.2)
