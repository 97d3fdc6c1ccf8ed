-- What is reported of a value, as reported of the bytes that it was read from.
use Rattle.std.proofs.Common.{◌≡◌, ℕ, List, [], ◌∷◌, length, map, refl, ap, suc, subst}
use Rattle.std.specs.Prelude.{◌↔◌}
use Rattle.serde_json.specs.Data.{Data}
use Rattle.oci_model.specs.Plain.{Plain}
use Rattle.oci_model.specs.Shape.{Shape}
use Rattle.oci_model.specs.Means.{Means}
use Rattle.oci_json.specs.Engines.{ReadsAs, MeansBytes}

none_is_empty : {T : Type 0} (xs : List T) → length xs ≡ 0 → xs ≡ []
none_is_empty [] e = refl
none_is_empty (x ∷ xs) e = cc

pub none_found : {T : Type 0} (s : Shape) (bytes : List ℕ) (d : Data) (found : List T) (n : ℕ) → ReadsAs bytes d → n ≡ length found → (found ≡ []) ↔ ((p : Plain) × Means s d p)
    → (n ≡ 0) ↔ ((p : Plain) × MeansBytes s bytes p)
none_found s bytes d found n reads e h = (
  (λ z. let m = h.0 (none_is_empty found (cc)) in (m.0, (d, reads, m.1))),
  (λ m. let same : m.1.0 ≡ d = (let k = m.1.1.1 in let j = reads.1 in cc) in let none = h.1 (m.0, subst (λ x. Means s x m.0) same m.1.2) in rw (e, none) refl),
)

same_length : {A B : Type 0} (f : A → B) (xs : List A) → length (map f xs) ≡ length xs
same_length f [] = refl
same_length f (x ∷ xs) = ap suc (same_length f xs)

pub all_counted : {A B : Type 0} (f : A → B) (xs : List A) (ys : List B) (n : ℕ) → n ≡ length xs → map f xs ≡ ys → n ≡ length ys
all_counted f xs ys n e same = let k = same_length f xs in cc
