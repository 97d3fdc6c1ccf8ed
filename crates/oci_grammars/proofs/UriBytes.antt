-- Texts with percent-encodings, and the bytes that the parts of a URI may have.
use Rattle.std.proofs.Common.{◌≡◌, ℕ, List, [], ◌∷◌, Bool, true, false, refl, sym, ap, subst, true≢false}
use Rattle.std.specs.Prelude.{◌==◌}
use Rattle.std.specs.Char.{is_ascii_hexdigit}
use Rattle.std.specs.List.{fold}
use Rattle.std.proofs.lemmas.Bool.{eqb-true}
use Rattle.oci_base.specs.Classes.{IsIn}
use Rattle.oci_grammars.specs.DecidedUris.{next_escape, ends_plain, is_coded}
use Rattle.oci_grammars.specs.Uris.{IsCoded, none, plain, encoded}
use Rattle.oci_grammars.specs.declared.uris.Escape.{Escape}
use Rattle.oci_grammars.specs.declared.uris.Escape.TheVariants.{Plain, First, Second, Broken}
use Rattle.oci_grammars.proofs.Deciding.{Tells}

module _ (class : ℕ → Bool) where
  -- what follows ends well
  abbrev Ends : Escape → List ℕ → Type 0
  Ends s t = ends_plain (fold (next_escape class) s t) ≡ true

  broken : (t : List ℕ) → Ends Broken t → ⊥
  broken [] e = true≢false (sym e)
  broken (b ∷ t) e = broken t e

  -- one hexadecimal digit is wanted
  abbrev HasLow : List ℕ → Type 0
  HasLow t = (low : ℕ) × (rest : List ℕ) × (t ≡ low ∷ rest) × (is_ascii_hexdigit low ≡ true) × IsCoded class rest

  -- two are
  abbrev HasBoth : List ℕ → Type 0
  HasBoth t = (high low : ℕ) × (rest : List ℕ) × (t ≡ high ∷ low ∷ rest) × (is_ascii_hexdigit high ≡ true) × (is_ascii_hexdigit low ≡ true) × IsCoded class rest

  reads : (t : List ℕ) → (Ends Plain t → IsCoded class t) × (Ends First t → HasBoth t) × (Ends Second t → HasLow t)
  reads [] = ((λ e. none), (λ e. absurd (true≢false (sym e))), (λ e. absurd (true≢false (sym e))))
  reads (b ∷ t) = (from_plain (reads t) (class b) refl (b == 37) refl, from_first (reads t) (is_ascii_hexdigit b) refl, from_second (reads t) (is_ascii_hexdigit b) refl)
    where
      from_plain : (Ends Plain t → IsCoded class t) × (Ends First t → HasBoth t) × (Ends Second t → HasLow t) → (p : Bool) → class b ≡ p → (m : Bool) → (b == 37) ≡ m → Ends Plain (b ∷ t) → IsCoded class (b ∷ t)
      from_plain rec true e m k h = plain b t e (rec.0 (rw e at h))
      from_plain rec false e true k h =
          let g = rw (e, k) at h in
          let (high, low, rest, s, x, y, c) = rec.1 g in
          subst (λ z. IsCoded class (z ∷ t)) (sym (eqb-true b 37 k)) (subst (λ z. IsCoded class (37 ∷ z)) (sym s) (encoded high low rest x y c))
      from_plain rec false e false k h = let g = rw (e, k) at h in absurd (broken t g)

      from_first : (Ends Plain t → IsCoded class t) × (Ends First t → HasBoth t) × (Ends Second t → HasLow t) → (p : Bool) → is_ascii_hexdigit b ≡ p → Ends First (b ∷ t) → HasBoth (b ∷ t)
      from_first rec true e h =
          let g = rw e at h in
          let (low, rest, s, y, c) = rec.2 g in
          (b, low, rest, ap (λ z. b ∷ z) s, e, y, c)
      from_first rec false e h = let g = rw e at h in absurd (broken t g)

      from_second : (Ends Plain t → IsCoded class t) × (Ends First t → HasBoth t) × (Ends Second t → HasLow t) → (p : Bool) → is_ascii_hexdigit b ≡ p → Ends Second (b ∷ t) → HasLow (b ∷ t)
      from_second rec true e h = let g = rw e at h in (b, t, refl, e, rec.0 g)
      from_second rec false e h = let g = rw e at h in absurd (broken t g)

  writes : class 37 ≡ false → (t : List ℕ) → IsCoded class t → Ends Plain t
  writes out _ none = refl
  writes out _ (plain b rest e c) = rw e (writes out rest c)
  writes out _ (encoded high low rest x y c) = rw (out, x, y) (writes out rest c)

  pub coded_tells : class 37 ≡ false → Tells (is_coded class) (IsCoded class)
  unfolding is_coded
  coded_tells out t = ((reads t).0, writes out t)

  -- coded texts have bytes of a wider class
  pub in_coded : (wide : ℕ → Bool) → wide 37 ≡ true → ((b : ℕ) → class b ≡ true → wide b ≡ true) → ((b : ℕ) → is_ascii_hexdigit b ≡ true → wide b ≡ true)
      → (t : List ℕ) → IsCoded class t → IsIn wide t
  in_coded wide percent own hex _ none = refl
  in_coded wide percent own hex _ (plain b rest e c) = rw (own b e) (in_coded wide percent own hex rest c)
  in_coded wide percent own hex _ (encoded high low rest x y c) = rw (percent, hex high x, hex low y) (in_coded wide percent own hex rest c)
