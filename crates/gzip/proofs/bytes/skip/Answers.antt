use Rattle.std.proofs.Common.{◌≡◌, ◌++◌, ◌∷◌, [], sym, subst, arith, append-nil}
use Rattle.std.proofs.lemmas.List.{append_assoc}
use Rattle.crc32.specs.Message.{Holds}
use Rattle.gzip.specs.Reading.{IsPiece}
use Rattle.gzip.proofs.ByteByByte.{piece_none, piece_more, piece_cut}
use Rattle.inflate.proofs.Exits.{refused_match}
use Rattle.gzip.proofs.bytes.skip.Goals as goal

pub bytes-init : goal.bytes-init
bytes-init g c = λ bytes m h k. ([], bytes, piece_none bytes, h, subst (Holds c.args.crc.now) (sym (append-nil m)) k)

pub bytes-preserved : goal.bytes-preserved
bytes-preserved g c = λ bytes m h k.
    let v = c.bytes.invariant bytes m h k in
    let w = c.in_ok-header_byte.ensures v.1 (m ++ v.0) v.3 v.4 in
    let b = c.in_ok-header_byte.field-0 in
    (v.0 ++ b ∷ [], w.0, piece_more bytes v.0 v.1 w.0 c.bytes.counter b v.2 w.1, w.2, subst (Holds c.header_byte.new.crc) (append_assoc m v.0 (b ∷ [])) w.3)

pub returns-in_err-header_byte : goal.returns-in_err-header_byte
returns-in_err-header_byte g c = λ bytes m h k. refused_match c.from_residual.result c.in_err-header_byte.field-0.0 _ _ c.from_residual.ensures.1 (λ refusal.
    let v = c.bytes.invariant bytes m h k in
    piece_cut bytes v.0 v.1 c.bytes.counter c.args.count v.2 (omega arith) (c.in_err-header_byte.ensures v.1 (m ++ v.0) v.3 v.4 refusal))

pub returns : goal.returns
returns g c = λ bytes m h k.
    let v = c.bytes.invariant bytes m h k in
    let n : c.bytes.counter ≡ c.args.count = omega arith in
    (v.0, v.1, subst (IsPiece bytes v.0 v.1) n v.2, v.3, v.4)
