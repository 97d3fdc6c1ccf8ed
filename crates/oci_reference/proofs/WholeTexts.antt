-- The whole text, with each mark by itself.
use Rattle.std.proofs.Common.{◌≡◌, ℕ, List, [], ◌∷◌, ◌++◌, Option, Some, None, length, ne_eqb, arith, refl, sym, ap, ◌∙◌, append-nil, append_assoc}
use Rattle.std.specs.Prelude.{◌==◌, ◌&&◌, ◌||◌, Bool, not, codes, is_some, unwrap_or}
use Rattle.oci_base.specs.Classes.{slash, colon, at_sign}
use Rattle.oci_reference.specs.Parts.{Parts}
use Rattle.oci_reference.specs.Whole.{whole}
use Rattle.oci_reference.specs.Written.{some_text, named, mark_if, spelled}

-- a reference of these parts
abbrev made : List ℕ → List ℕ → Option (List ℕ) → Option (List ℕ) → Option (List ℕ) → Parts
made x y g d m = record { registry = x; repository = y; tag = g; digest = d; mirror = m }

-- the marks by themselves make the whole text, by the cases of empty and absent parts
by_parts : (x y : List ℕ) (g d m : Option (List ℕ)) → spelled (made x y g d m) ≡ whole (made x y g d m)
by_parts [] [] None None m = refl
by_parts [] [] None (Some d) m = refl
by_parts [] [] (Some g) None m = append-nil g
by_parts [] [] (Some g) (Some d) m = refl
by_parts [] (c ∷ y) None None m = append-nil (c ∷ y)
by_parts [] (c ∷ y) None (Some d) m = refl
by_parts [] (c ∷ y) (Some g) None m = ap (λ z. (c ∷ y) ++ colon ∷ z) (append-nil g)
by_parts [] (c ∷ y) (Some g) (Some d) m = sym (append_assoc (c ∷ y) (colon ∷ g) (at_sign ∷ d))
by_parts (b ∷ x) [] None None m = append-nil (b ∷ x)
by_parts (b ∷ x) [] None (Some d) m = refl
by_parts (b ∷ x) [] (Some g) None m = ap (λ z. (b ∷ x) ++ colon ∷ z) (append-nil g)
by_parts (b ∷ x) [] (Some g) (Some d) m = sym (append_assoc (b ∷ x) (colon ∷ g) (at_sign ∷ d))
by_parts (b ∷ x) (c ∷ y) None None m = ap (λ z. (b ∷ x) ++ slash ∷ z) (append-nil (c ∷ y))
by_parts (b ∷ x) (c ∷ y) None (Some d) m = sym (append_assoc (b ∷ x) (slash ∷ c ∷ y) (at_sign ∷ d))
by_parts (b ∷ x) (c ∷ y) (Some g) None m =
    ap (λ z. (b ∷ x) ++ slash ∷ ((c ∷ y) ++ colon ∷ z)) (append-nil g) ∙ sym (append_assoc (b ∷ x) (slash ∷ c ∷ y) (colon ∷ g))
by_parts (b ∷ x) (c ∷ y) (Some g) (Some d) m =
    sym (append_assoc ((b ∷ x) ++ slash ∷ c ∷ y) (colon ∷ g) (at_sign ∷ d) ∙ append_assoc (b ∷ x) (slash ∷ c ∷ y) (colon ∷ (g ++ at_sign ∷ d)))

-- the marks by themselves make the whole text
pub spelled_whole : (r : Parts) → spelled r ≡ whole r
spelled_whole r = by_parts r.registry r.repository r.tag r.digest r.mirror

-- a text is empty exactly if its length is 0
pub not_empty : (t : List ℕ) (r : Bool) → r ≡ (length t == 0) → not r ≡ some_text t
not_empty [] r e = rw e refl
not_empty (b ∷ t) r e = rw (e, ne_eqb (length (b ∷ t)) 0 (omega arith)) refl

-- what is written, piece by piece
pub row_whole : (r : Parts) (x s y c g a d : List ℕ) → x ≡ r.registry → s ≡ mark_if (some_text r.registry && some_text r.repository) (codes "/")
    → y ≡ r.repository → c ≡ mark_if (named r && is_some r.tag) (codes ":") → g ≡ unwrap_or r.tag []
    → a ≡ mark_if ((named r || is_some r.tag) && is_some r.digest) (codes "@") → d ≡ unwrap_or r.digest []
    → x ++ (s ++ (y ++ (c ++ (g ++ (a ++ d))))) ≡ whole r
row_whole r x s y c g a d h1 h2 h3 h4 h5 h6 h7 = rw (h1, h2, h3, h4, h5, h6, h7) (spelled_whole r)
