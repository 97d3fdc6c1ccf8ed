-- Verdicts are exact.
use Rattle.std.proofs.Common.{◌≡◌, ◌↔◌, ℕ, List, slice_index, refl, sym, ap, ◌∙◌, subst, arith}
use Rattle.oci_content.specs.Content.{checksum_of, checksum_text, digest_text, IsBy, IsContentOf, Tells}
use Rattle.oci_content.specs.declared.algorithm.Algorithm.{Algorithm}
use Rattle.oci_content.specs.declared.algorithm.Algorithm.TheVariants.{Sha256, Sha384, Sha512}
use Rattle.oci_content.specs.declared.verdict.Verdict.{Verdict}
use Rattle.oci_content.specs.declared.verdict.Verdict.TheVariants as verdict

-- a digest of some bytes is by its algorithm
pub digest_by : (a : Algorithm) (bytes : List ℕ) → IsBy a (digest_text a bytes)
digest_by Sha256 bytes = (_, refl)
digest_by Sha384 bytes = (_, refl)
digest_by Sha512 bytes = (_, refl)

-- a text is by one algorithm at most
pub one_algorithm : (a b : Algorithm) (text : List ℕ) → IsBy a text → IsBy b text → a ≡ b
one_algorithm Sha256 Sha256 t h k = refl
one_algorithm Sha384 Sha384 t h k = refl
one_algorithm Sha512 Sha512 t h k = refl
one_algorithm Sha256 Sha384 t (x, h) (y, k) = absurd (let e = ap (λ z. slice_index z 3) (sym h ∙ k) in omega arith)
one_algorithm Sha256 Sha512 t (x, h) (y, k) = absurd (let e = ap (λ z. slice_index z 3) (sym h ∙ k) in omega arith)
one_algorithm Sha384 Sha256 t (x, h) (y, k) = absurd (let e = ap (λ z. slice_index z 3) (sym h ∙ k) in omega arith)
one_algorithm Sha384 Sha512 t (x, h) (y, k) = absurd (let e = ap (λ z. slice_index z 3) (sym h ∙ k) in omega arith)
one_algorithm Sha512 Sha256 t (x, h) (y, k) = absurd (let e = ap (λ z. slice_index z 3) (sym h ∙ k) in omega arith)
one_algorithm Sha512 Sha384 t (x, h) (y, k) = absurd (let e = ap (λ z. slice_index z 3) (sym h ∙ k) in omega arith)

by_digest : (digest bytes : List ℕ) (a : Algorithm) → digest ≡ digest_text a bytes → IsBy a digest
by_digest digest bytes a e = subst (IsBy a) (sym e) (digest_by a bytes)

-- a right content has no other verdict
pub right_is_same : (digest : List ℕ) (size : ℕ) (bytes : List ℕ) (v : Verdict) → Tells digest size bytes v → IsContentOf digest size bytes → v ≡ verdict.Same
right_is_same digest size bytes verdict.Same t h = refl
right_is_same digest size bytes (verdict.Shorter n) (e, less) (is, h) = absurd (omega arith)
right_is_same digest size bytes verdict.Longer more (is, h) = absurd (omega arith)
right_is_same digest size bytes (verdict.OtherDigest found) (_, o) (is, (a, e)) =
    let same : o.algorithm ≡ a = one_algorithm o.algorithm a digest o.named (by_digest digest bytes a e) in
    absurd (o.other (e ∙ ap (λ b. digest_text b bytes) (sym same) ∙ ap checksum_text (sym o.made)))
right_is_same digest size bytes verdict.Unjudged (_, none) (is, (a, e)) = absurd (none a (by_digest digest bytes a e))

pub exact : (digest : List ℕ) (size : ℕ) (bytes : List ℕ) (v : Verdict) → Tells digest size bytes v → (v ≡ verdict.Same) ↔ IsContentOf digest size bytes
exact digest size bytes v t = (λ e. subst (Tells digest size bytes) e t, right_is_same digest size bytes v t)

-- a content has one verdict
pub one_verdict : (digest : List ℕ) (size : ℕ) (bytes : List ℕ) (v w : Verdict) → Tells digest size bytes v → Tells digest size bytes w → v ≡ w
one_verdict digest size bytes verdict.Same w h k = sym (right_is_same digest size bytes w k h)
one_verdict digest size bytes v verdict.Same h k = right_is_same digest size bytes v h k
one_verdict digest size bytes (verdict.Shorter n) (verdict.Shorter m) h k = ap verdict.Shorter (sym h.0 ∙ k.0)
one_verdict digest size bytes (verdict.Shorter n) verdict.Longer (e, less) k = absurd (omega arith)
one_verdict digest size bytes (verdict.Shorter n) (verdict.OtherDigest c) (e, less) (is, o) = absurd (omega arith)
one_verdict digest size bytes (verdict.Shorter n) verdict.Unjudged (e, less) (is, o) = absurd (omega arith)
one_verdict digest size bytes verdict.Longer (verdict.Shorter m) h (e, less) = absurd (omega arith)
one_verdict digest size bytes verdict.Longer verdict.Longer h k = refl
one_verdict digest size bytes verdict.Longer (verdict.OtherDigest c) h (is, o) = absurd (omega arith)
one_verdict digest size bytes verdict.Longer verdict.Unjudged h (is, o) = absurd (omega arith)
one_verdict digest size bytes (verdict.OtherDigest c) (verdict.Shorter m) (is, o) (e, less) = absurd (omega arith)
one_verdict digest size bytes (verdict.OtherDigest c) verdict.Longer (is, o) k = absurd (omega arith)
one_verdict digest size bytes (verdict.OtherDigest c) (verdict.OtherDigest d) (is, o) (at, p) =
    let same : o.algorithm ≡ p.algorithm = one_algorithm o.algorithm p.algorithm digest o.named p.named in
    ap verdict.OtherDigest (o.made ∙ ap (λ a. checksum_of a bytes) same ∙ sym p.made)
one_verdict digest size bytes (verdict.OtherDigest c) verdict.Unjudged (is, o) (at, none) = absurd (none o.algorithm o.named)
one_verdict digest size bytes verdict.Unjudged (verdict.Shorter m) (is, none) (e, less) = absurd (omega arith)
one_verdict digest size bytes verdict.Unjudged verdict.Longer (is, none) k = absurd (omega arith)
one_verdict digest size bytes verdict.Unjudged (verdict.OtherDigest d) (is, none) (at, p) = absurd (none p.algorithm p.named)
one_verdict digest size bytes verdict.Unjudged verdict.Unjudged h k = refl
