-- Violations that are found, part by part.
use Rattle.std.proofs.Common.{◌≡◌, ℕ, zero, suc, ◌+◌, ◌<◌, List, [], ◌∷◌, length, drop, map, slice_index_or, refl, sym, ap, ◌∙◌, arith}
use Rattle.std.specs.Prelude.{◌↔◌}
use Rattle.serde_json.specs.Data.{Data}
use Rattle.oci_model.specs.Plain.{Plain}
use Rattle.oci_model.specs.Means.{Means}
use Rattle.oci_model.specs.Shape.{Shape}
use Rattle.oci_schema.specs.Violations.{reported, violations}
use Rattle.oci_schema.specs.declared.violation.Violation.{Violation}
use Rattle.oci_schema.proofs.Empty.{none_is_meant}

pub drop_at : {A : Type 0} (rs : List A) (i : ℕ) (x : A) → i < length rs → drop i rs ≡ slice_index_or rs i x ∷ drop (i + 1) rs
drop_at [] i x below = absurd (omega arith)
drop_at (r ∷ rs) zero x below = refl
drop_at (r ∷ rs) (suc i) x below =
    let e : suc i + 1 ≡ suc (i + 1) = omega arith in
    drop_at rs i x (omega arith) ∙ ap (λ k. slice_index_or rs i x ∷ drop k (r ∷ rs)) (sym e)

-- the rest of a list, cut after its first element
pub cut_at : {A : Type 0} (rs : List A) (i : ℕ) (x : A) → i < length rs → x ≡ slice_index_or rs i x → drop i rs ≡ x ∷ drop (i + 1) rs
cut_at rs i x below is = drop_at rs i x below ∙ ap (λ z. z ∷ drop (i + 1) rs) (sym is)

nothing : (v : List Violation) → map reported v ≡ [] → v ≡ []
nothing [] e = refl
nothing (x ∷ v) e = cc

-- there are none exactly where the value is valid
pub empty_is_meant : (s : Shape) (d : Data) (v : List Violation) → map reported v ≡ violations s [] d → (v ≡ []) ↔ ((p : Plain) × Means s d p)
empty_is_meant s d v e =
    ((λ h. (none_is_meant s [] d).0 (sym e ∙ ap (map reported) h)), (λ m. nothing v (e ∙ (none_is_meant s [] d).1 m)))
