use Rattle.std.proofs.Common.{[], sym, subst, append-nil}
use Rattle.crc32.specs.Message.{Holds}
use Rattle.gzip.specs.Reading.{IsTextField}
use Rattle.gzip.proofs.Heads.{piece_of, field_of, no_field}
use Rattle.inflate.proofs.Exits.{refused_match}
use Rattle.gzip.proofs.header.text_field.Goals as goal

pub returns-then-not-is_there : goal.returns-then-not-is_there
returns-then-not-is_there g c = λ bytes m h k. ([], bytes, subst (λ b. IsTextField b bytes [] bytes) (sym c.if-not-is_there.true) (no_field bytes), h, subst (Holds c.args.crc.now) (sym (append-nil m)) k)

pub returns : goal.returns
returns g c = λ bytes m h k.
    let w = c.in_ok-skip_text.ensures bytes m h k in
    (w.0, w.1, subst (λ b. IsTextField b bytes w.0 w.1) (sym c.if-not-is_there.false) (field_of bytes w.0 w.1 w.2), w.3, w.4)

pub returns-in_err-skip_text : goal.returns-in_err-skip_text
returns-in_err-skip_text g c = λ bytes m h k. refused_match c.from_residual.result c.in_err-skip_text.field-0.0 _ _ c.from_residual.ensures.1 (λ refusal piece rest is.
    c.in_err-skip_text.ensures bytes m h k refusal piece rest (piece_of bytes piece rest (subst (λ b. IsTextField b bytes piece rest) c.if-not-is_there.false is)))
