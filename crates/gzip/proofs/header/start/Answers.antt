use Rattle.std.proofs.Common.{◌≡◌, ◌∷◌, [], ap, ◌∙◌, subst, arith}
use Rattle.crc32.specs.Message.{Holds}
use Rattle.gzip.proofs.Heads.{no_start, start_first, next_byte, not_empty, start_read}
use Rattle.inflate.proofs.Exits.{refused_match}
use Rattle.gzip.proofs.header.start.Goals as goal

pub returns-in_err-first : goal.returns-in_err-first
returns-in_err-first g c = λ bytes h k. refused_match c.from_residual.result c.in_err-first.field-0.0 _ _ c.from_residual.ensures.1 (λ refusal rest f is. no_start bytes rest f is (c.in_err-first.ensures bytes [] h k refusal))

pub returns-then-is_first : goal.returns-then-is_first
returns-then-is_first g c = λ bytes h k refusal rest f is.
    let a = c.in_ok-first.ensures bytes [] h k in
    let s = start_first bytes a.0 rest c.in_ok-first.first f a.1 is in
    c.if-first-ne-FIRST.true s.0

pub returns-else-is_first : goal.returns-else-is_first
returns-else-is_first g c = λ bytes h k refusal rest f is.
    let a = c.in_ok-first.ensures bytes [] h k in
    let s = start_first bytes a.0 rest c.in_ok-first.first f a.1 is in
    c.if-first-ne-FIRST.true s.0

pub returns-in_err-second : goal.returns-in_err-second
returns-in_err-second g c = λ bytes h k. refused_match c.from_residual-in_err-second.result c.in_err-second.field-0.0 _ _ c.from_residual-in_err-second.ensures.1 (λ refusal rest f is.
    let a = c.in_ok-first.ensures bytes [] h k in
    let s = start_first bytes a.0 rest c.in_ok-first.first f a.1 is in
    not_empty a.0 (8 ∷ f ∷ rest) 139 s.1 (c.in_err-second.ensures a.0 (c.in_ok-first.first ∷ []) a.2 a.3 refusal))

pub returns-then-second : goal.returns-then-second
returns-then-second g c = λ bytes h k refusal rest f is.
    let a = c.in_ok-first.ensures bytes [] h k in
    let s = start_first bytes a.0 rest c.in_ok-first.first f a.1 is in
    let b = c.in_ok-second.ensures a.0 (c.in_ok-first.first ∷ []) a.2 a.3 in
    c.if-second.true (next_byte a.0 b.0 (8 ∷ f ∷ rest) c.in_ok-second.second 139 b.1 s.1).0

pub returns-in_err-method : goal.returns-in_err-method
returns-in_err-method g c = λ bytes h k. refused_match c.from_residual-in_err-method.result c.in_err-method.field-0.0 _ _ c.from_residual-in_err-method.ensures.1 (λ refusal rest f is.
    let a = c.in_ok-first.ensures bytes [] h k in
    let s = start_first bytes a.0 rest c.in_ok-first.first f a.1 is in
    let b = c.in_ok-second.ensures a.0 (c.in_ok-first.first ∷ []) a.2 a.3 in
    let u = next_byte a.0 b.0 (8 ∷ f ∷ rest) c.in_ok-second.second 139 b.1 s.1 in
    not_empty b.0 (f ∷ rest) 8 u.1 (c.in_err-method.ensures b.0 (c.in_ok-first.first ∷ c.in_ok-second.second ∷ []) b.2 b.3 refusal))

pub returns-then-method-ne-DEFLATE : goal.returns-then-method-ne-DEFLATE
returns-then-method-ne-DEFLATE g c = λ bytes h k refusal rest f is.
    let a = c.in_ok-first.ensures bytes [] h k in
    let s = start_first bytes a.0 rest c.in_ok-first.first f a.1 is in
    let b = c.in_ok-second.ensures a.0 (c.in_ok-first.first ∷ []) a.2 a.3 in
    let u = next_byte a.0 b.0 (8 ∷ f ∷ rest) c.in_ok-second.second 139 b.1 s.1 in
    let d = c.in_ok-method.ensures b.0 (c.in_ok-first.first ∷ c.in_ok-second.second ∷ []) b.2 b.3 in
    c.if-method-ne-DEFLATE.true (next_byte b.0 d.0 (f ∷ rest) c.in_ok-method.method 8 d.1 u.1).0

pub returns-in_err-flags : goal.returns-in_err-flags
returns-in_err-flags g c = λ bytes h k. refused_match c.from_residual-in_err-flags.result c.in_err-flags.field-0.0 _ _ c.from_residual-in_err-flags.ensures.1 (λ refusal rest f is.
    let a = c.in_ok-first.ensures bytes [] h k in
    let s = start_first bytes a.0 rest c.in_ok-first.first f a.1 is in
    let b = c.in_ok-second.ensures a.0 (c.in_ok-first.first ∷ []) a.2 a.3 in
    let u = next_byte a.0 b.0 (8 ∷ f ∷ rest) c.in_ok-second.second 139 b.1 s.1 in
    let d = c.in_ok-method.ensures b.0 (c.in_ok-first.first ∷ c.in_ok-second.second ∷ []) b.2 b.3 in
    let v = next_byte b.0 d.0 (f ∷ rest) c.in_ok-method.method 8 d.1 u.1 in
    not_empty d.0 rest f v.1 (c.in_err-flags.ensures d.0 (c.in_ok-first.first ∷ c.in_ok-second.second ∷ c.in_ok-method.method ∷ []) d.2 d.3 refusal))

pub returns-then-flags-gt-ALL_FLAGS : goal.returns-then-flags-gt-ALL_FLAGS
returns-then-flags-gt-ALL_FLAGS g c = λ bytes h k refusal rest f is.
    let a = c.in_ok-first.ensures bytes [] h k in
    let s = start_first bytes a.0 rest c.in_ok-first.first f a.1 is in
    let b = c.in_ok-second.ensures a.0 (c.in_ok-first.first ∷ []) a.2 a.3 in
    let u = next_byte a.0 b.0 (8 ∷ f ∷ rest) c.in_ok-second.second 139 b.1 s.1 in
    let d = c.in_ok-method.ensures b.0 (c.in_ok-first.first ∷ c.in_ok-second.second ∷ []) b.2 b.3 in
    let v = next_byte b.0 d.0 (f ∷ rest) c.in_ok-method.method 8 d.1 u.1 in
    let w = c.in_ok-flags.ensures d.0 (c.in_ok-first.first ∷ c.in_ok-second.second ∷ c.in_ok-method.method ∷ []) d.2 d.3 in
    omega (arith, (next_byte d.0 w.0 rest c.in_ok-flags.flags f w.1 v.1).0, is.small)

pub returns : goal.returns
returns g c = λ bytes h k.
    let first = c.in_ok-first.first in
    let second = c.in_ok-second.second in
    let method = c.in_ok-method.method in
    let flags = c.in_ok-flags.flags in
    let a = c.in_ok-first.ensures bytes [] h k in
    let b = c.in_ok-second.ensures a.0 (first ∷ []) a.2 a.3 in
    let d = c.in_ok-method.ensures b.0 (first ∷ second ∷ []) b.2 b.3 in
    let w = c.in_ok-flags.ensures d.0 (first ∷ second ∷ method ∷ []) d.2 d.3 in
    let is_first : first ≡ 31 = omega arith in
    let is_second : second ≡ 139 = omega arith in
    let is_third : method ≡ 8 = omega arith in (
      w.0,
      start_read bytes a.0 b.0 d.0 w.0 first second method flags a.1 b.1 d.1 w.1 is_first is_second is_third (omega arith),
      w.2,
      subst (Holds c.header_byte-4.new.crc) (ap (λ v. v ∷ second ∷ method ∷ flags ∷ []) is_first ∙ ap (λ v. 31 ∷ v ∷ method ∷ flags ∷ []) is_second ∙ ap (λ v. 31 ∷ 139 ∷ v ∷ flags ∷ []) is_third) w.3,
    )
