-- The parts of a text between marks.
use Rattle.std.proofs.Common.{◌≡◌, ℕ, List, [], ◌∷◌, ◌++◌, refl, ◌∙◌, ne_eqb}
use Rattle.std.specs.Prelude.{◌==◌}
use Rattle.std.specs.List.{slice_split}
use Rattle.std.proofs.lemmas.Bool.{eq-eqb}
use Rattle.std.proofs.lemmas.List.Splits.{slice_split-cons_yes, slice_split-cons_no}
use Rattle.oci_base.proofs.Lacks.{Lacks}

pub split_none : (mark : ℕ) (x : List ℕ) → Lacks mark x → slice_split (λ b. b == mark) x ≡ x ∷ []
split_none mark [] h = refl
split_none mark (b ∷ x) h = slice_split-cons_no (λ b. b == mark) b x (ne_eqb b mark h.0) ∙ rw (split_none mark x h.1) refl

pub split_at : (mark : ℕ) (x y : List ℕ) → Lacks mark x → slice_split (λ b. b == mark) (x ++ mark ∷ y) ≡ x ∷ slice_split (λ b. b == mark) y
split_at mark [] y h = slice_split-cons_yes (λ b. b == mark) mark y (eq-eqb mark mark refl)
split_at mark (b ∷ x) y h = slice_split-cons_no (λ b. b == mark) b (x ++ mark ∷ y) (ne_eqb b mark h.0) ∙ rw (split_at mark x y h.1) refl
