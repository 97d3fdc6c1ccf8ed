-- An accepted reference has a tag or a digest, and when its tag is `latest`.
use Rattle.std.proofs.Common.{◌≡◌, ◌⊎◌, ◌↔◌, ℕ, List, Option, Some, None, refl, sym, ap, ◌∙◌, inl, inr}
use Rattle.std.specs.Prelude.{codes}
use Rattle.oci_reference.specs.Reference.{IsReference}
use Rattle.oci_reference.proofs.Readings.{reading_once}
use Rattle.oci_reference.specs.Accepted.{Accepted, or_latest}
use Rattle.oci_reference.specs.Parts.{Parts}

-- without a digest there is a tag
neither : (g d : Option (List ℕ)) → or_latest g d ≡ None → d ≡ None → ⊥
neither None None h k = cc h
neither None (Some d) h k = cc k
neither (Some g) d h k = cc h

-- there is a tag or a digest
pub tagged_or_pinned : (t : List ℕ) (r : Parts) → Accepted t r → r.tag ≡ None → r.digest ≡ None → ⊥
tagged_or_pinned t r a h k = neither a.tag a.digest (sym (ap (λ z. z.tag) a.are) ∙ h) (sym (ap (λ z. z.digest) a.are) ∙ k)

-- given so, or neither given
abbrev GivenLatest : Option (List ℕ) → Option (List ℕ) → Type 0
GivenLatest g d = (g ≡ Some (codes "latest")) ⊎ ((g ≡ None) × (d ≡ None))

-- a tag `latest` was given, or neither was
to_given : (g d : Option (List ℕ)) → or_latest g d ≡ Some (codes "latest") → GivenLatest g d
to_given None None h = inr (refl, refl)
to_given None (Some d) h = cc h
to_given (Some g) d h = inl h

-- where so given or neither was, the tag is `latest`
from_given : (g d : Option (List ℕ)) → GivenLatest g d → or_latest g d ≡ Some (codes "latest")
from_given None None h = refl
from_given None (Some d) (inl h) = h
from_given None (Some d) (inr (_, h)) = cc h
from_given (Some g) d (inl h) = h
from_given (Some g) d (inr (h, _)) = cc h

-- the tag is `latest` exactly if so given or neither was
pub latest_tag : (t n : List ℕ) (g d : Option (List ℕ)) (r : Parts) → IsReference t n g d → Accepted t r
    → (r.tag ≡ Some (codes "latest")) ↔ ((g ≡ Some (codes "latest")) ⊎ ((g ≡ None) × (d ≡ None)))
latest_tag t n g d r reading a =
    let (_, same_tag, same_digest) = reading_once t n a.name g a.tag d a.digest reading a.reading in
    let tag : r.tag ≡ or_latest g d = ap (λ z. z.tag) a.are ∙ rw (same_tag, same_digest) refl in
    ((λ h. to_given g d (sym tag ∙ h)), (λ h. tag ∙ from_given g d h))
