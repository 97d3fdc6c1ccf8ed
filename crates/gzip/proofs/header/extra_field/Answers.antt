use Rattle.std.proofs.Common.{◌<◌, ◌∷◌, ◌++◌, [], length, ap, ◌∙◌, sym, subst, arith, append-nil}
use Rattle.std.proofs.lemmas.List.{append_assoc}
use Rattle.crc32.specs.Message.{Holds}
use Rattle.gzip.specs.Reading.{IsExtraField}
use Rattle.gzip.proofs.Heads.{no_extra, extra_read, extra_cut, extra_content, content_cut}
use Rattle.inflate.proofs.Exits.{refused_match}
use Rattle.gzip.proofs.header.extra_field.Goals as goal

pub returns-then-not-is_there : goal.returns-then-not-is_there
returns-then-not-is_there g c = λ bytes m h k. ([], bytes, subst (λ b. IsExtraField b bytes [] bytes) (sym c.if-not-is_there.true) (no_extra bytes), h, subst (Holds c.args.crc.now) (sym (append-nil m)) k)

pub returns-in_err-low : goal.returns-in_err-low
returns-in_err-low g c = λ bytes m h k. refused_match c.from_residual.result c.in_err-low.field-0.0 _ _ c.from_residual.ensures.1 (λ refusal piece rest is.
    extra_cut bytes piece rest (omega (arith, ap length (c.in_err-low.ensures bytes m h k refusal))) (subst (λ b. IsExtraField b bytes piece rest) c.if-not-is_there.false is))

pub returns-in_err-high : goal.returns-in_err-high
returns-in_err-high g c = λ bytes m h k. refused_match c.from_residual-in_err-high.result c.in_err-high.field-0.0 _ _ c.from_residual-in_err-high.ensures.1 (λ refusal piece rest is.
    let a = c.in_ok-low.ensures bytes m h k in
    extra_cut bytes piece rest (omega (arith, ap length a.1, ap length (c.in_err-high.ensures a.0 (m ++ c.in_ok-low.low ∷ []) a.2 a.3 refusal)))
    (subst (λ b. IsExtraField b bytes piece rest) c.if-not-is_there.false is))

pub returns-in_err-skip : goal.returns-in_err-skip
returns-in_err-skip g c = λ bytes m h k. refused_match c.from_residual-in_err-skip.result c.in_err-skip.field-0.0 _ _ c.from_residual-in_err-skip.ensures.1 (λ refusal piece rest is.
    let low = c.in_ok-low.low in
    let high = c.in_ok-high.high in
    let a = c.in_ok-low.ensures bytes m h k in
    let b = c.in_ok-high.ensures a.0 (m ++ low ∷ []) a.2 a.3 in
    let cut : length b.0 < c.from_le_bytes-count.result = c.in_err-skip.ensures b.0 ((m ++ low ∷ []) ++ high ∷ []) b.2 b.3 refusal in
    content_cut low high b.0 piece rest (subst (λ n. length b.0 < n) c.from_le_bytes-count.ensures cut)
    (extra_content bytes b.0 piece rest low high (subst (λ v. IsExtraField v bytes piece rest) c.if-not-is_there.false is) (a.1 ∙ ap (λ u. low ∷ u) b.1)))

pub returns : goal.returns
returns g c = λ bytes m h k.
    let low = c.in_ok-low.low in
    let high = c.in_ok-high.high in
    let a = c.in_ok-low.ensures bytes m h k in
    let b = c.in_ok-high.ensures a.0 (m ++ low ∷ []) a.2 a.3 in
    let s = c.in_ok-skip.ensures b.0 ((m ++ low ∷ []) ++ high ∷ []) b.2 b.3 in (
      low ∷ high ∷ s.0,
      s.1,
      subst (λ v. IsExtraField v bytes (low ∷ high ∷ s.0) s.1) (sym c.if-not-is_there.false)
          (extra_read bytes a.0 b.0 s.1 s.0 low high c.from_le_bytes-count.result h.below a.1 b.1 c.from_le_bytes-count.ensures (omega arith) s.2),
      s.3,
      subst (Holds c.skip.new.crc) (append_assoc (m ++ low ∷ []) (high ∷ []) s.0 ∙ append_assoc m (low ∷ []) (high ∷ s.0)) s.4,
    )
