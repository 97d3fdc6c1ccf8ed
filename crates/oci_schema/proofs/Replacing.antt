-- Marks that are replaced, one by one.
use Rattle.std.proofs.Common.{◌≡◌, ◌≢◌, ℕ, suc, ◌+◌, ◌<◌, drop, IsUtf8, subst, List, [], ◌∷◌, ◌++◌, length, get_or, refl, sym, ap, ◌∙◌, append_assoc, length-append, eq-eqb, ne_eqb, arith}
use Rattle.std.proofs.lemmas.Str.{IsUtf8-drop, IsCharBoundary-after_ascii}
use Rattle.oci_base.proofs.Lacks.{Lacks, lacks_from}
use Rattle.oci_schema.specs.Places.{replaced}

pub replaced_none : (mark : ℕ) (by t : List ℕ) → Lacks mark t → replaced mark by t ≡ t
replaced_none mark by [] h = refl
replaced_none mark by (b ∷ t) h = rw (ne_eqb b mark h.0, replaced_none mark by t h.1) refl

replaced_cut : (mark : ℕ) (by x y : List ℕ) → Lacks mark x → replaced mark by (x ++ mark ∷ y) ≡ x ++ (by ++ replaced mark by y)
replaced_cut mark by [] y h = rw (eq-eqb mark mark refl) refl
replaced_cut mark by (b ∷ x) y h = rw (ne_eqb b mark h.0, replaced_cut mark by x y h.1) refl

-- one mark more
pub one_more : (mark : ℕ) (by text rest made more made' x y : List ℕ) → made ++ replaced mark by rest ≡ replaced mark by text
    → rest ≡ x ++ mark ∷ y → ((i : ℕ) → i < length x → get_or x i 0 ≢ mark) → more ≡ made ++ x → made' ≡ more ++ by
    → made' ++ replaced mark by y ≡ replaced mark by text
one_more mark by text rest made more made' x y before cut lacks e h =
    let step : made' ++ replaced mark by y ≡ made ++ replaced mark by rest =
    rw (h, e, cut, replaced_cut mark by x y (lacks_from mark x lacks), append_assoc (made ++ x) by (replaced mark by y), append_assoc made x (by ++ replaced mark by y)) refl in
    step ∙ before

pub shorter : (mark : ℕ) (rest x y : List ℕ) → rest ≡ x ++ mark ∷ y → length y < length rest
shorter mark rest x y cut = let e = ap length cut in omega (arith, length-append x (mark ∷ y))

-- no mark more
pub last_part : (mark : ℕ) (by text rest made made' : List ℕ) → made ++ replaced mark by rest ≡ replaced mark by text → ((i : ℕ) → i < length rest → get_or rest i 0 ≢ mark) → made' ≡ made ++ rest
    → made' ≡ replaced mark by text
last_part mark by text rest made made' before lacks e = e ∙ ap (λ z. made ++ z) (sym (replaced_none mark by rest (lacks_from mark rest lacks))) ∙ before

-- ---- what stands behind a mark is text

at_mark : (mark : ℕ) (x y : List ℕ) → get_or (x ++ mark ∷ y) (length x) 0 ≡ mark
at_mark mark [] y = refl
at_mark mark (b ∷ x) y = at_mark mark x y

drop_front : (mark : ℕ) (x y : List ℕ) → drop (length x + 1) (x ++ mark ∷ y) ≡ y
drop_front mark [] y = refl
drop_front mark (b ∷ x) y =
    let e : length (b ∷ x) + 1 ≡ suc (length x + 1) = omega arith in
    ap (λ k. drop k (b ∷ (x ++ mark ∷ y))) e ∙ drop_front mark x y

pub text_behind : (mark : ℕ) (rest x y : List ℕ) → mark < 128 → rest ≡ x ++ mark ∷ y → IsUtf8 rest → IsUtf8 y
text_behind mark rest x y low cut is =
    let u : IsUtf8 (x ++ mark ∷ y) = subst IsUtf8 cut is in
    let at = at_mark mark x y in
    subst IsUtf8 (drop_front mark x y)
    (IsUtf8-drop (x ++ mark ∷ y) (length x + 1) u (IsCharBoundary-after_ascii (x ++ mark ∷ y) (length x) u (omega (arith, length-append x (mark ∷ y))) (omega arith)))
