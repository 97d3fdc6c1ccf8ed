-- A text that is cut at the first place of a byte.
use Rattle.std.proofs.Common.{◌≡◌, ℕ, suc, ◌+◌, ◌-◌, ◌≤◌, Bool, true, false, not, List, [], ◌∷◌, Some, None, length, take, drop, refl, sym, ap, ◌∙◌, arith}
use Rattle.std.specs.Prelude.{position, nat_lt, ◌==◌}
use Rattle.std.specs.List.{position_or_len}
use Rattle.std.proofs.lemmas.Bool.{ltb-false}
use Rattle.std.proofs.lemmas.List.{take_all, drop_all, length-drop}
use Rattle.oci_base.specs.Classes.{until, after}
use Rattle.oci_grammars.specs.Decided.{front_in, back_in}

-- how many bytes stand before the first c
abbrev passed : ℕ → List ℕ → ℕ
passed c t = position_or_len (λ b. b == c) t

one_more : (n : ℕ) → 1 + n ≡ suc n
one_more n = omega arith

passed_at : (c b : ℕ) (t : List ℕ) → (b == c) ≡ true → passed c (b ∷ t) ≡ 0
passed_at c b t e = rw e refl

passed_by : (c b : ℕ) (t : List ℕ) → (b == c) ≡ false → passed c (b ∷ t) ≡ suc (passed c t)
passed_by c b t e = rw e (one_more (passed c t))

until_place : (c : ℕ) (t : List ℕ) → take (passed c t) t ≡ until c t
until_place c [] = refl
until_place c (b ∷ t) = go (b == c) refl (until_place c t)
  where
    go : (same : Bool) → (b == c) ≡ same → take (passed c t) t ≡ until c t → take (passed c (b ∷ t)) (b ∷ t) ≡ until c (b ∷ t)
    go true e rec = ap (λ k. take k (b ∷ t)) (passed_at c b t e) ∙ rw e refl
    go false e rec = ap (λ k. take k (b ∷ t)) (passed_by c b t e) ∙ rw e (ap (λ z. b ∷ z) rec)

behind_place : (c : ℕ) (t : List ℕ) → drop (suc (passed c t)) t ≡ after c t
behind_place c [] = refl
behind_place c (b ∷ t) = go (b == c) refl (behind_place c t)
  where
    go : (same : Bool) → (b == c) ≡ same → drop (suc (passed c t)) t ≡ after c t → drop (passed c (b ∷ t)) t ≡ after c (b ∷ t)
    go true e rec = ap (λ k. drop k t) (passed_at c b t e) ∙ rw e refl
    go false e rec = ap (λ k. drop k t) (passed_by c b t e) ∙ rw e rec

after_place : (c : ℕ) (t : List ℕ) → drop (passed c t + 1) t ≡ after c t
after_place c t = let same : passed c t + 1 ≡ suc (passed c t) = omega arith in ap (λ k. drop k t) same ∙ behind_place c t

-- the place that was found is where the test first holds
at_place : (p : ℕ → Bool) (t : List ℕ) (i : ℕ) → position p t ≡ Some i → position_or_len p t ≡ i
at_place p t i h = go (nat_lt (position_or_len p t) (length t)) refl
  where
    go : (within : Bool) → nat_lt (position_or_len p t) (length t) ≡ within → position_or_len p t ≡ i
    go true e = let same = rw e at h in cc same
    go false e = let clash = rw e at h in cc clash

-- none was found
no_place : (p : ℕ → Bool) (t : List ℕ) → position p t ≡ None → length t ≤ position_or_len p t
no_place p t h = go (nat_lt (position_or_len p t) (length t)) refl
  where
    go : (within : Bool) → nat_lt (position_or_len p t) (length t) ≡ within → length t ≤ position_or_len p t
    go true e = let clash = rw e at h in cc clash
    go false e = ltb-false (position_or_len p t) (length t) e

pub front : (c : ℕ) (t : List ℕ) (i : ℕ) → position (λ b. b == c) t ≡ Some i → take i t ≡ until c t
front c t i h = ap (λ k. take k t) (sym (at_place (λ b. b == c) t i h)) ∙ until_place c t

-- all that is left behind a place
rest_of : (t : List ℕ) (k : ℕ) → take (length t - k) (drop k t) ≡ drop k t
rest_of t k = take_all (length t - k) (drop k t) (omega (arith, length-drop k t))

pub back : (c : ℕ) (t : List ℕ) (i : ℕ) → position (λ b. b == c) t ≡ Some i → take (length t - (i + 1)) (drop (i + 1) t) ≡ after c t
back c t i h = rest_of t (i + 1) ∙ ap (λ k. drop (k + 1) t) (sym (at_place (λ b. b == c) t i h)) ∙ after_place c t

pub whole : (c : ℕ) (t : List ℕ) → position (λ b. b == c) t ≡ None → t ≡ until c t
whole c t h = sym (take_all (position_or_len (λ b. b == c) t) t (no_place (λ b. b == c) t h)) ∙ until_place c t

pub nothing : (c : ℕ) (t : List ℕ) → position (λ b. b == c) t ≡ None → after c t ≡ []
nothing c t h =
    let far : length t ≤ position_or_len (λ b. b == c) t + 1 = omega (arith, no_place (λ b. b == c) t h) in
    sym (after_place c t) ∙ drop_all (position_or_len (λ b. b == c) t + 1) t far

-- ---- the first byte that is not of a class

spanned : (class : ℕ → Bool) (t : List ℕ) → (take (position_or_len (λ b. not (class b)) t) t ≡ front_in class t) × (drop (position_or_len (λ b. not (class b)) t) t ≡ back_in class t)
spanned class [] = (refl, refl)
spanned class (b ∷ t) = go (class b) refl (spanned class t)
  where
    here : class b ≡ false → position_or_len (λ c. not (class c)) (b ∷ t) ≡ 0
    here e = rw e refl

    on : class b ≡ true → position_or_len (λ c. not (class c)) (b ∷ t) ≡ suc (position_or_len (λ c. not (class c)) t)
    on e = rw e (one_more (position_or_len (λ c. not (class c)) t))

    go : (in' : Bool) → class b ≡ in' → (take (position_or_len (λ c. not (class c)) t) t ≡ front_in class t) × (drop (position_or_len (λ c. not (class c)) t) t ≡ back_in class t)
        → (take (position_or_len (λ c. not (class c)) (b ∷ t)) (b ∷ t) ≡ front_in class (b ∷ t)) × (drop (position_or_len (λ c. not (class c)) (b ∷ t)) (b ∷ t) ≡ back_in class (b ∷ t))
    go true e rec = (
      ap (λ k. take k (b ∷ t)) (on e) ∙ rw e (ap (λ z. b ∷ z) rec.0),
      ap (λ k. drop k (b ∷ t)) (on e) ∙ rw e (rec.1),
    )
    go false e rec = (ap (λ k. take k (b ∷ t)) (here e) ∙ rw e refl, ap (λ k. drop k (b ∷ t)) (here e) ∙ rw e refl)

pub front_to : (class : ℕ → Bool) (t : List ℕ) (i : ℕ) → position (λ b. not (class b)) t ≡ Some i → take i t ≡ front_in class t
front_to class t i h = ap (λ k. take k t) (sym (at_place (λ b. not (class b)) t i h)) ∙ (spanned class t).0

pub back_from : (class : ℕ → Bool) (t : List ℕ) (i : ℕ) → position (λ b. not (class b)) t ≡ Some i → take (length t - i) (drop i t) ≡ back_in class t
back_from class t i h = rest_of t i ∙ ap (λ k. drop k t) (sym (at_place (λ b. not (class b)) t i h)) ∙ (spanned class t).1

pub front_whole : (class : ℕ → Bool) (t : List ℕ) → position (λ b. not (class b)) t ≡ None → t ≡ front_in class t
front_whole class t h = sym (take_all (position_or_len (λ b. not (class b)) t) t (no_place (λ b. not (class b)) t h)) ∙ (spanned class t).0

pub back_none : (class : ℕ → Bool) (t : List ℕ) → position (λ b. not (class b)) t ≡ None → back_in class t ≡ []
back_none class t h = sym (spanned class t).1 ∙ drop_all (position_or_len (λ b. not (class b)) t) t (no_place (λ b. not (class b)) t h)
