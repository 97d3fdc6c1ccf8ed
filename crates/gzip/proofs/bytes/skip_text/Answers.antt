use Rattle.std.proofs.Common.{◌++◌, ◌∷◌, [], sym, subst, arith, append-nil}
use Rattle.std.proofs.lemmas.List.{append_assoc}
use Rattle.crc32.specs.Message.{Holds}
use Rattle.gzip.proofs.ByteByByte.{text_none, text_more, text_end, text_cut}
use Rattle.inflate.proofs.Exits.{refused_match}
use Rattle.gzip.proofs.bytes.skip_text.Goals as goal

pub bytes-init : goal.bytes-init
bytes-init g c = λ bytes m h k. ([], bytes, text_none bytes, h, subst (Holds c.args.crc.now) (sym (append-nil m)) k)

pub bytes-preserved : goal.bytes-preserved
bytes-preserved g c = λ bytes m h k.
    let v = c.bytes.invariant bytes m h k in
    let w = c.in_ok-value.ensures v.1 (m ++ v.0) v.3 v.4 in
    let b = c.in_ok-value.value in
    (v.0 ++ b ∷ [], w.0, text_more bytes v.0 v.1 w.0 b (omega arith) (omega arith) v.2 w.1, w.2, subst (Holds c.header_byte.new.crc) (append_assoc m v.0 (b ∷ [])) w.3)

pub returns-then-value-eq0 : goal.returns-then-value-eq0
returns-then-value-eq0 g c = λ bytes m h k.
    let v = c.bytes.invariant bytes m h k in
    let w = c.in_ok-value.ensures v.1 (m ++ v.0) v.3 v.4 in
    let b = c.in_ok-value.value in
    (v.0 ++ b ∷ [], w.0, text_end bytes v.0 v.1 w.0 b (omega arith) v.2 w.1, w.2, subst (Holds c.header_byte.new.crc) (append_assoc m v.0 (b ∷ [])) w.3)

pub returns-in_err-value : goal.returns-in_err-value
returns-in_err-value g c = λ bytes m h k. refused_match c.from_residual.result c.in_err-value.field-0.0 _ _ c.from_residual.ensures.1 (λ refusal piece rest is.
    let v = c.bytes.invariant bytes m h k in
    text_cut bytes v.0 v.1 piece rest v.2 (c.in_err-value.ensures v.1 (m ++ v.0) v.3 v.4 refusal) is)

pub returns : goal.returns
returns g c = λ bytes m h k refusal piece rest is. refusal
