-- Texts around a slash.
use Rattle.std.proofs.Common.{◌≡◌, ◌≢◌, ℕ, suc, ◌<◌, List, [], ◌∷◌, ◌++◌, length, get_or, Some, None, refl, sym, ap, ◌∙◌, subst, arith, lit<, Bor}
use Rattle.std.specs.Prelude.{IsTrue, Option}
use Rattle.std.proofs.lemmas.Str.Pattern.{split_after, IsSplitOnceResult}
use Rattle.oci_select.specs.Texts.{is_part_byte, IsPart, HasParts, two, three}

-- no byte of the text is a slash
abbrev Lacks : List ℕ → Type 0
Lacks text = (i : ℕ) → i < length text → get_or text i 0 ≢ 47

lacks : (part : List ℕ) → IsPart part → Lacks part
lacks part h i lt e = cc (subst (λ (b : ℕ). IsTrue (is_part_byte b)) e (h.1 i 0 lt))

-- the first part and the rest are told by the text
cut : (p q r s : List ℕ) → Lacks p → Lacks q → p ++ 47 ∷ r ≡ q ++ 47 ∷ s → (p ≡ q) × (r ≡ s)
cut [] [] r s h k e = (refl, cc)
cut [] (x ∷ q) r s h k e = let slash : x ≡ 47 = cc in absurd (k 0 (omega arith) slash)
cut (x ∷ p) [] r s h k e = let slash : x ≡ 47 = cc in absurd (h 0 (omega arith) slash)
cut (x ∷ p) (y ∷ q) r s h k e =
    let same : x ≡ y = cc in
    let tails : p ++ 47 ∷ r ≡ q ++ 47 ∷ s = cc in
    let rest = cut p q r s (λ i lt. h (suc i) (omega arith)) (λ i lt. k (suc i) (omega arith)) tails in
    (cc (same, rest.0), rest.1)

pub same_cut : (p q r s : List ℕ) → IsPart p → IsPart q → p ++ 47 ∷ r ≡ q ++ 47 ∷ s → (p ≡ q) × (r ≡ s)
same_cut p q r s h k e = cut p q r s (lacks p h) (lacks q k) e

-- where no text is split off, there is no first part
pub no_first : (text part rest : List ℕ) → IsSplitOnceResult 47 text None → IsPart part → text ≢ part ++ 47 ∷ rest
no_first text part rest split h e = split_after 47 text part rest None split (lit< tt) e (lacks part h)

-- what is split off is the first part
pub the_first : (text part rest : List ℕ) (x : Bor (List ℕ) × Bor (List ℕ)) → IsSplitOnceResult 47 text (Some x) → IsPart part → text ≡ part ++ 47 ∷ rest → x.0.now ≡ part
the_first text part rest x split h e = (split_after 47 text part rest (Some x) split (lit< tt) e (lacks part h)).0

slash_in : (a v : List ℕ) → ¬ Lacks (a ++ 47 ∷ v)
slash_in [] v h = h 0 (omega arith) refl
slash_in (x ∷ a) v h = slash_in a v (λ i lt. h (suc i) (omega arith))

no_slash : (part a v : List ℕ) → IsPart part → part ≢ a ++ 47 ∷ v
no_slash part a v h e = slash_in a v (lacks (a ++ 47 ∷ v) (subst IsPart e h))

pub two_parts : (text os rest : List ℕ) → IsPart os → text ≡ os ++ 47 ∷ rest → IsPart rest → HasParts text os rest None
two_parts text os rest p e q = subst (λ t. HasParts t os rest None) (sym e) (two os rest p q)

pub three_parts : (text os rest architecture variant : List ℕ) → IsPart os → text ≡ os ++ 47 ∷ rest → IsPart architecture → rest ≡ architecture ++ 47 ∷ variant → IsPart variant
    → HasParts text os architecture (Some variant)
three_parts text os rest architecture variant p e q f r =
    subst (λ t. HasParts t os architecture (Some variant)) (sym (e ∙ ap (λ z. os ++ 47 ∷ z) f)) (three os architecture variant p q r)

-- a text has no parts if what is behind its second slash is none
pub no_third : (text os rest a v : List ℕ) → IsPart os → text ≡ os ++ 47 ∷ rest → IsPart a → rest ≡ a ++ 47 ∷ v → ¬ IsPart v → (o c : List ℕ) (w : Option (List ℕ)) → ¬ HasParts text o c w
no_third _ os rest a v p e q f n _ _ _ (two o c p' q') = no_slash c a v q' ((same_cut o os c rest p' p e).1 ∙ f)
no_third _ os rest a v p e q f n _ _ _ (three o c w p' q' r') =
    n (subst IsPart (same_cut c a w v q' q ((same_cut o os (c ++ 47 ∷ w) rest p' p e).1 ∙ f)).1 r')

-- nor if what is behind its first slash is none, and has no first part either
pub no_second : (text os rest : List ℕ) → IsPart os → text ≡ os ++ 47 ∷ rest → ((a v : List ℕ) → IsPart a → rest ≢ a ++ 47 ∷ v) → ¬ IsPart rest → (o c : List ℕ) (w : Option (List ℕ)) → ¬ HasParts text o c w
no_second _ os rest p e none n _ _ _ (two o c p' q') = n (subst IsPart (same_cut o os c rest p' p e).1 q')
no_second _ os rest p e none n _ _ _ (three o c w p' q' r') = none c w q' (sym (same_cut o os (c ++ 47 ∷ w) rest p' p e).1)
