use Rattle.std.proofs.Common.{◌∷◌, ◌++◌, [], sym, subst}
use Rattle.deflate.specs.Bits.{AreBelow}
use Rattle.gzip.specs.Gzip.{extra_field, text_field, flags}
use Rattle.gzip.specs.Reading.{IsPiece}
use Rattle.gzip.proofs.ByteByByte.{no_piece}
use Rattle.gzip.proofs.Heads.{below_front, parts_of, behind_start, extra_due, name_due, comment_due, checksum_due, head_read}
use Rattle.inflate.proofs.Exits.{refused_match}
use Rattle.gzip.proofs.header.read_header.Goals as goal

pub returns-in_err-flags : goal.returns-in_err-flags
returns-in_err-flags g c = λ bytes h k. refused_match c.from_residual.result c.in_err-flags.field-0.0 _ _ c.from_residual.ensures.1 (λ refusal rest is.
    let p = parts_of bytes rest is in
    c.in_err-flags.ensures bytes h k refusal p.behind_start (flags is.header) p.start)

pub returns-in_err-skip : goal.returns-in_err-skip
returns-in_err-skip g c = λ bytes h k. refused_match c.from_residual-in_err-skip.result c.in_err-skip.field-0.0 _ _ c.from_residual-in_err-skip.ensures.1 (λ refusal rest is.
    let f = c.in_ok-flags.flags in
    let s = c.in_ok-flags.ensures bytes h k in
    let p = parts_of bytes rest is in
    let t : IsPiece s.0 is.header.times p.behind_times 6 = subst (λ u. IsPiece u is.header.times p.behind_times 6) (sym (behind_start bytes s.0 rest f s.1 is).1) p.times in
    no_piece s.0 is.header.times p.behind_times 6 (c.in_err-skip.ensures s.0 (31 ∷ 139 ∷ 8 ∷ f ∷ []) s.2 s.3 refusal) t)

pub returns-in_err-extra_field : goal.returns-in_err-extra_field
returns-in_err-extra_field g c = λ bytes h k. refused_match c.from_residual-in_err-extra_field.result c.in_err-extra_field.field-0.0 _ _ c.from_residual-in_err-extra_field.ensures.1 (λ refusal rest is.
    let f = c.in_ok-flags.flags in
    let m = 31 ∷ 139 ∷ 8 ∷ f ∷ [] in
    let s = c.in_ok-flags.ensures bytes h k in
    let t = c.in_ok-skip.ensures s.0 m s.2 s.3 in
    let p = parts_of bytes rest is in
    c.in_err-extra_field.ensures t.1 (m ++ t.0) t.3 t.4 refusal (extra_field is.header.extra) p.behind_extra
    (extra_due bytes s.0 t.1 t.0 rest f c.has-has_extra.result s.1 t.2 c.has-has_extra.ensures is))

pub returns-in_err-text_field : goal.returns-in_err-text_field
returns-in_err-text_field g c = λ bytes h k. refused_match c.from_residual-in_err-text_field.result c.in_err-text_field.field-0.0 _ _ c.from_residual-in_err-text_field.ensures.1 (λ refusal rest is.
    let f = c.in_ok-flags.flags in
    let m = 31 ∷ 139 ∷ 8 ∷ f ∷ [] in
    let s = c.in_ok-flags.ensures bytes h k in
    let t = c.in_ok-skip.ensures s.0 m s.2 s.3 in
    let e = c.in_ok-extra_field.ensures t.1 (m ++ t.0) t.3 t.4 in
    let p = parts_of bytes rest is in
    c.in_err-text_field.ensures e.1 (m ++ t.0 ++ e.0) e.3 e.4 refusal (text_field is.header.name) p.behind_name
    (name_due bytes s.0 t.1 t.0 e.0 e.1 rest f c.has-has_extra.result c.has-has_name.result s.1 t.2 c.has-has_extra.ensures e.2 c.has-has_name.ensures is))

pub returns-in_err-text_field-2 : goal.returns-in_err-text_field-2
returns-in_err-text_field-2 g c = λ bytes h k. refused_match c.from_residual-in_err-text_field-2.result c.in_err-text_field-2.field-0.0 _ _ c.from_residual-in_err-text_field-2.ensures.1 (λ refusal rest is.
    let f = c.in_ok-flags.flags in
    let m = 31 ∷ 139 ∷ 8 ∷ f ∷ [] in
    let s = c.in_ok-flags.ensures bytes h k in
    let t = c.in_ok-skip.ensures s.0 m s.2 s.3 in
    let e = c.in_ok-extra_field.ensures t.1 (m ++ t.0) t.3 t.4 in
    let n = c.in_ok-text_field.ensures e.1 (m ++ t.0 ++ e.0) e.3 e.4 in
    let p = parts_of bytes rest is in
    c.in_err-text_field-2.ensures n.1 (m ++ t.0 ++ e.0 ++ n.0) n.3 n.4 refusal (text_field is.header.comment) p.behind_comment
    (comment_due bytes s.0 t.1 t.0 e.0 e.1 n.0 n.1 rest f c.has-has_extra.result c.has-has_name.result c.has-has_comment.result s.1 t.2 c.has-has_extra.ensures e.2 c.has-has_name.ensures n.2
    c.has-has_comment.ensures is))

pub returns-in_err-checksum : goal.returns-in_err-checksum
returns-in_err-checksum g c = λ bytes h k. refused_match c.from_residual-in_err-checksum.result c.in_err-checksum.field-0.0 _ _ c.from_residual-in_err-checksum.ensures.1 (λ refusal rest is.
    let f = c.in_ok-flags.flags in
    let m = 31 ∷ 139 ∷ 8 ∷ f ∷ [] in
    let s = c.in_ok-flags.ensures bytes h k in
    let t = c.in_ok-skip.ensures s.0 m s.2 s.3 in
    let e = c.in_ok-extra_field.ensures t.1 (m ++ t.0) t.3 t.4 in
    let n = c.in_ok-text_field.ensures e.1 (m ++ t.0 ++ e.0) e.3 e.4 in
    let o = c.in_ok-text_field-2.ensures n.1 (m ++ t.0 ++ e.0 ++ n.0) n.3 n.4 in
    c.in_err-checksum.ensures o.1 (m ++ t.0 ++ e.0 ++ n.0 ++ o.0) o.3 o.4 refusal rest
    (checksum_due bytes s.0 t.1 t.0 e.0 e.1 n.0 n.1 o.0 o.1 rest f c.has-has_extra.result c.has-has_name.result c.has-has_comment.result c.has-has_checksum.result s.1 t.2 c.has-has_extra.ensures e.2
    c.has-has_name.ensures n.2 c.has-has_comment.ensures o.2 c.has-has_checksum.ensures is))

pub returns : goal.returns
returns g c = λ bytes h k.
    let f = c.in_ok-flags.flags in
    let m = 31 ∷ 139 ∷ 8 ∷ f ∷ [] in
    let s = c.in_ok-flags.ensures bytes h k in
    let t = c.in_ok-skip.ensures s.0 m s.2 s.3 in
    let e = c.in_ok-extra_field.ensures t.1 (m ++ t.0) t.3 t.4 in
    let n = c.in_ok-text_field.ensures e.1 (m ++ t.0 ++ e.0) e.3 e.4 in
    let o = c.in_ok-text_field-2.ensures n.1 (m ++ t.0 ++ e.0 ++ n.0) n.3 n.4 in
    let x = c.in_ok-checksum.ensures o.1 (m ++ t.0 ++ e.0 ++ n.0 ++ o.0) o.3 o.4 in
    let below : AreBelow 256 t.0 = below_front 256 t.0 t.1 (subst (AreBelow 256) t.2.begins s.2.below) in (
      x.0,
      head_read bytes s.0 t.1 t.0 e.0 e.1 n.0 n.1 o.0 o.1 x.0 f c.has-has_extra.result c.has-has_name.result c.has-has_comment.result c.has-has_checksum.result below s.1 t.2 c.has-has_extra.ensures e.2
          c.has-has_name.ensures n.2 c.has-has_comment.ensures o.2 c.has-has_checksum.ensures x.1,
      x.2,
    )
