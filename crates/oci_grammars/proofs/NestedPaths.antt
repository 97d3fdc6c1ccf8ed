-- Paths inside one another are decided where the other one ends.
use Rattle.std.proofs.Common.{◌≡◌, ℕ, not, Bool, true, List, [], ◌∷◌, length, map, refl, sym, ap, ◌∙◌, ne_eqb, eq-eqb, arith}
use Rattle.std.specs.Prelude.{codes, ◌==◌}
use Rattle.std.specs.Bool.{Decides}
use Rattle.std.proofs.lemmas.Bool.{eqb-true}
use Rattle.std.proofs.lemmas.Bool.Decides.{Decides-and, Decides-at, Decides-or}
use Rattle.std.proofs.lemmas.List.{length-map}
use Rattle.oci_base.proofs.Lacks.{both}
use Rattle.oci_grammars.specs.DecidedNesting.{is_same_bytes, is_same_path, is_not_empty, is_below, is_root, is_deeper, is_inside}
use Rattle.oci_grammars.specs.Nesting.{folded, IsSamePath, IsNotEmpty, IsBelow, IsRoot, IsDeeper, IsInside}
use Rattle.oci_grammars.proofs.Deciding.{Tells, also, behind_tells, sized_tells}
use Rattle.oci_grammars.proofs.PathGrammars.{ends_tells}

same_from : (t u : List ℕ) → length t ≡ length u → is_same_bytes u t ≡ true → map folded t ≡ map folded u
same_from [] [] e h = refl
same_from [] (c ∷ u) e h = absurd (omega (arith, e))
same_from (b ∷ t) [] e h = absurd (omega (arith, e))
same_from (b ∷ t) (c ∷ u) e h =
    let parts = both (folded b == folded c) (is_same_bytes u t) h in
    let head : folded b ≡ folded c = eqb-true (folded b) (folded c) parts.0 in
    let size : length t ≡ length u = omega (arith, e) in
    ap (λ z. z ∷ map folded t) head ∙ ap (λ z. folded c ∷ z) (same_from t u size parts.1)

same_to : (t u : List ℕ) → map folded t ≡ map folded u → is_same_bytes u t ≡ true
same_to [] [] e = refl
same_to [] (c ∷ u) e = cc e
same_to (b ∷ t) [] e = cc e
same_to (b ∷ t) (c ∷ u) e =
    let head : folded b ≡ folded c = cc e in
    let rest : map folded t ≡ map folded u = cc e in
    also (folded b == folded c) (is_same_bytes u t) (eq-eqb (folded b) (folded c) head) (same_to t u rest)

same_length : (other t : List ℕ) → IsSamePath other t → length t ≡ length other
same_length other t e = sym (length-map t folded) ∙ ap length e ∙ length-map other folded

same_tells : (other : List ℕ) → Tells (is_same_path other) (IsSamePath other)
same_tells other t = (
  (λ e. let parts = both (length t == length other) (is_same_bytes other t) e in same_from t other (eqb-true (length t) (length other) parts.0) parts.1),
  (λ h. also (length t == length other) (is_same_bytes other t) (eq-eqb (length t) (length other) (same_length other t h)) (same_to t other h)),
)

not_empty_tells : Tells is_not_empty IsNotEmpty
not_empty_tells [] = ((λ e. cc e), (λ h. absurd (omega (arith, h))))
not_empty_tells (b ∷ t) = ((λ e. omega arith), (λ h. ap not (ne_eqb (length (b ∷ t)) 0 (omega arith))))

below_tells : Tells is_below IsBelow
below_tells t = Decides-or _ _ (behind_tells is_not_empty IsNotEmpty not_empty_tells (codes "\\") t) (behind_tells is_not_empty IsNotEmpty not_empty_tells (codes "/") t)

root_tells : Tells is_root IsRoot
root_tells t = Decides-or _ _ (ends_tells (codes "\\") t) (ends_tells (codes "/") t)

deeper_tells : (other : List ℕ) → Tells (is_deeper other) (IsDeeper other)
deeper_tells other t = Decides-or _ _ (below_tells t) (Decides-and _ _ (root_tells other) (not_empty_tells t))

pub is_inside_decides : (other t : List ℕ) → Decides (is_inside other t) (IsInside other t)
unfolding is_inside
is_inside_decides other t =
    sized_tells (length other) (is_same_path other) (is_deeper other) (IsSamePath other) (IsDeeper other) (same_tells other) (deeper_tells other) (same_length other) t

pub inside_by : (other path a b : List ℕ) (r : Bool) → a ≡ other → b ≡ path → r ≡ is_inside a b → Decides r (IsInside other path)
inside_by other path a b r e f k =
    Decides-at r (is_inside other path) (k ∙ ap (λ z. is_inside z b) e ∙ ap (is_inside other) f) (is_inside_decides other path)
