-- What the law on a replaced digest says of a reference that is the pinned one.
use Rattle.std.proofs.Common.{◌≡◌, ◌↔◌, ℕ, List, sym, ◌∙◌, subst}
use Rattle.oci_base.specs.Digest.{IsDigest, IsDigestText}
use Rattle.oci_reference.specs.Accepted.{Accepted}
use Rattle.oci_reference.specs.Parts.{Parts}
use Rattle.oci_reference.specs.Replaced.{pinned, IsSupported}
use Rattle.oci_reference.specs.Whole.{whole}
use Rattle.oci_reference.proofs.Replaced.{replaced_accepted, replaced_same}

-- its whole text is accepted exactly if the algorithm is supported
of_algorithm : (r : Parts) (d : List ℕ) (p : Parts) → p ≡ pinned r d → (t a e : List ℕ) → Accepted t r → IsDigest d a e
    → ((q : Parts) × Accepted (whole p) q) ↔ IsSupported a
of_algorithm r d p is t a e h k = subst (λ z. ((q : Parts) × Accepted (whole z) q) ↔ IsSupported a) (sym is) (replaced_accepted t d a e r h k)

pub read_again : (r : Parts) (d : List ℕ) → IsDigestText d → (p : Parts) → p ≡ pinned r d → (t : List ℕ) → Accepted t r
    → ((q : Parts) × Accepted (whole p) q) ↔ ((a : List ℕ) × (e : List ℕ) × IsDigest d a e × IsSupported a)
read_again r d (b, x, parts) p is t h = (
  (λ accepted. (b, x, parts, (of_algorithm r d p is t b x h parts).0 accepted)),
  (λ (a, e, k, supported). (of_algorithm r d p is t a e h k).1 supported),
)

-- and as no other
pub read_alone : (r : Parts) (d : List ℕ) (p : Parts) → p ≡ pinned r d → (t : List ℕ) (q : Parts) → Accepted t r → Accepted (whole p) q → q ≡ p
read_alone r d p is t q h k = replaced_same t d r q h (subst (λ z. Accepted (whole z) q) is k) ∙ sym is
