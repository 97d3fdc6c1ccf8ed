-- A test decides what a text made of parts is, if tests decide what its parts are.
use Rattle.std.proofs.Common.{◌≡◌, ◌≢◌, ℕ, ◌≤◌, ◌&&◌, ◌||◌, ◌⊎◌, Bool, true, false, not, List, [], ◌∷◌, ◌++◌, length, take, drop, refl, sym, ap, ◌∙◌, subst, inl, inr, leb-true, le-leb, true≢false, append_assoc, append-nil, ne_eqb, arith}
use Rattle.std.specs.Prelude.{nat_le, nat_eq, IsTrue, ◌==◌}
use Rattle.std.specs.Bool.{Decides}
use Rattle.std.specs.List.{list_all, slice_split, starts_with}
use Rattle.std.proofs.lemmas.Bool.{eqb-true, eq-eqb}
use Rattle.std.proofs.lemmas.List.{take-append-drop}
use Rattle.std.proofs.lemmas.Bool.Decides.{Decides-at, Decides-eqb}
use Rattle.oci_base.specs.Classes.{has, until, after, IsIn, IsSomeOf, IsMark, IsJoined, one, more}
use Rattle.oci_base.proofs.Lacks.{Lacks, lacks_in, lacks_append, both}
use Rattle.oci_base.proofs.Marks.{until_is, not_cut, lacks_not_has, first_cut, has_at, has_none}
use Rattle.oci_grammars.specs.Decided.{is_some_of, is_counted, is_headed, front_in, back_in}
use Rattle.oci_grammars.proofs.Splits.{split_none, split_at}
use Rattle.oci_grammars.specs.Parts.{IsAny, IsCounted, IsHeaded, IsPair, IsExtended, IsPrefaced, IsBehind, IsRun}

pub also : (a b : Bool) → a ≡ true → b ≡ true → (a && b) ≡ true
also a b e h = rw (e, h) refl

pub Decides-le : (a b : ℕ) → Decides (nat_le a b) (a ≤ b)
Decides-le a b = ((λ e. leb-true a b e), (λ h. le-leb a b h))

-- a test decides a grammar
abbrev pub Tells : (List ℕ → Bool) → (List ℕ → Type 0) → Type 0
Tells test P = (t : List ℕ) → Decides (test t) (P t)

-- ---- classes

pub in_tells : (class : ℕ → Bool) → Tells (list_all class) (IsIn class)
in_tells class t = ((λ e. e), (λ h. h))

pub some_tells : (class : ℕ → Bool) → Tells (is_some_of class) (IsSomeOf class)
some_tells class [] = ((λ e. cc e), (λ h. absurd (omega (arith, h.0))))
some_tells class (b ∷ t) =
    let some : not (length (b ∷ t) == 0) ≡ true = ap not (ne_eqb (length (b ∷ t)) 0 (omega arith)) in
    ((λ e. (omega arith, (both _ _ e).1)), (λ h. also _ _ some h.1))

pub counted_tells : (class : ℕ → Bool) (count : ℕ) → Tells (is_counted class count) (IsCounted class count)
counted_tells class count t = (
  (λ e. let parts = both (length t == count) (list_all class t) e in (parts.1, eqb-true (length t) count parts.0)),
  (λ h. also _ _ (eq-eqb (length t) count h.1) h.0),
)

pub headed_tells : (head tail : ℕ → Bool) → Tells (is_headed head tail) (IsHeaded head tail)
headed_tells head tail [] = ((λ e. cc e), (λ h. cc h.spelled))
headed_tells head tail (b ∷ t) = (
  (λ e. let parts = both (head b) (list_all tail t) e in record { first = b; rest = t; spelled = refl; begins = parts.0; goes_on = parts.1 }),
  (λ h. ap (is_headed head tail) h.spelled ∙ also _ _ h.begins h.goes_on),
)

pub headed_lacks : (mark : ℕ) (head tail : ℕ → Bool) → head mark ≡ false → tail mark ≡ false → (t : List ℕ) → IsHeaded head tail t → Lacks mark t
headed_lacks mark head tail out off t h =
    subst (Lacks mark) (sym h.spelled) ((λ s. true≢false (sym h.begins ∙ ap head s ∙ out)), lacks_in tail mark off h.rest h.goes_on)

pub any_tells : Tells (λ t. true) IsAny
any_tells t = ((λ e. tt), (λ h. refl))

pub empty_tells : Tells (λ t. length t == 0) (λ t. t ≡ [])
empty_tells [] = ((λ e. refl), (λ h. refl))
empty_tells (b ∷ t) = ((λ e. absurd (true≢false (sym e ∙ ne_eqb (length (b ∷ t)) 0 (omega arith)))), (λ h. cc h))

-- a Bool as its own fact
pub Decides-itself : (b : Bool) → Decides b (IsTrue b)
Decides-itself b = ((λ e. e), (λ h. h))

and_true : (b : Bool) → b ≡ (b && true)
and_true true = refl
and_true false = refl

-- ---- a part, a mark and a part

pub pair_lacks : (c mark : ℕ) (P Q : List ℕ → Type 0) → (mark == c) ≡ false → ((x : List ℕ) → P x → Lacks c x) → ((x : List ℕ) → Q x → Lacks c x)
    → (t : List ℕ) → IsPair mark P Q t → Lacks c t
pair_lacks c mark P Q off front back t h =
    subst (Lacks c) (sym h.spelled)
    (lacks_append c h.front (mark ∷ h.back) (front h.front h.is_front) ((λ e. true≢false (sym (eq-eqb mark c e) ∙ off)), back h.back h.is_back))

-- how a text is cut
pub cases : (mark : ℕ) (t : List ℕ)
    → ((x y : List ℕ) × (t ≡ x ++ mark ∷ y) × (has mark t ≡ true) × (until mark t ≡ x) × (after mark t ≡ y))
    ⊎ ((has mark t ≡ false) × (until mark t ≡ t) × (after mark t ≡ []))
cases mark t = go (has mark t) refl
  where
    go : (b : Bool) → has mark t ≡ b → ((x y : List ℕ) × (t ≡ x ++ mark ∷ y) × (has mark t ≡ true) × (until mark t ≡ x) × (after mark t ≡ y))
        ⊎ ((has mark t ≡ false) × (until mark t ≡ t) × (after mark t ≡ []))
    go true h =
        let cut = first_cut mark t h in
        let k = until_is mark cut.0 cut.1 cut.2 in
        inl (cut.0, cut.1, cut.3, h, ap (until mark) cut.3 ∙ k.0, ap (after mark) cut.3 ∙ k.1)
    go false h = let k = not_cut mark t (lacks_not_has mark t h) in inr (h, k.0, k.1)

module _ (mark : ℕ) (p q : List ℕ → Bool) (P Q : List ℕ → Type 0) (front : Tells p P) (back : Tells q Q) (lacks : (x : List ℕ) → P x → Lacks mark x) where
  -- what a cut of such a text gives
  cut_of : (t : List ℕ) (h : IsPair mark P Q t) → (has mark t ≡ true) × (p (until mark t) ≡ true) × (q (after mark t) ≡ true)
  cut_of t h =
      let k = until_is mark h.front h.back (lacks h.front h.is_front) in (
        ap (has mark) h.spelled ∙ has_at mark h.front h.back,
        ap (λ z. p (until mark z)) h.spelled ∙ ap p k.0 ∙ (front h.front).1 h.is_front,
        ap (λ z. q (after mark z)) h.spelled ∙ ap q k.1 ∙ (back h.back).1 h.is_back,
      )

  pair_from : (t x y : List ℕ) → t ≡ x ++ mark ∷ y → p x ≡ true → q y ≡ true → IsPair mark P Q t
  pair_from t x y e g h = record { front = x; back = y; spelled = e; is_front = (front x).0 g; is_back = (back y).0 h }

  -- where what follows the mark may be empty
  pub marked_tells : Tells (λ t. has mark t && (p (until mark t) && q (after mark t))) (IsPair mark P Q)
  marked_tells t = (there (cases mark t), (λ h. let k = cut_of t h in also _ _ k.0 (also _ _ k.1 k.2)))
    where
      there : ((x y : List ℕ) × (t ≡ x ++ mark ∷ y) × (has mark t ≡ true) × (until mark t ≡ x) × (after mark t ≡ y))
          ⊎ ((has mark t ≡ false) × (until mark t ≡ t) × (after mark t ≡ []))
          → (has mark t && (p (until mark t) && q (after mark t))) ≡ true → IsPair mark P Q t
      there (inl (x, y, e, h, u, w)) k =
          let parts = both _ _ (both _ _ k).1 in
          pair_from t x y e (sym (ap p u) ∙ parts.0) (sym (ap q w) ∙ parts.1)
      there (inr (h, u, w)) k = absurd (true≢false (sym (both _ _ k).0 ∙ h))

  -- where it may not
  pub pair_tells : q [] ≡ false → Tells (λ t. p (until mark t) && q (after mark t)) (IsPair mark P Q)
  pair_tells some t = (there (cases mark t), (λ h. let k = cut_of t h in also _ _ k.1 k.2))
    where
      there : ((x y : List ℕ) × (t ≡ x ++ mark ∷ y) × (has mark t ≡ true) × (until mark t ≡ x) × (after mark t ≡ y))
          ⊎ ((has mark t ≡ false) × (until mark t ≡ t) × (after mark t ≡ []))
          → (p (until mark t) && q (after mark t)) ≡ true → IsPair mark P Q t
      there (inl (x, y, e, h, u, w)) k = let parts = both _ _ k in pair_from t x y e (sym (ap p u) ∙ parts.0) (sym (ap q w) ∙ parts.1)
      there (inr (h, u, w)) k = absurd (true≢false (sym (both _ _ k).1 ∙ ap q w ∙ some))

  -- a part, and perhaps a mark and a part
  pub extended_tells : Tells (λ t. p (until mark t) && (not (has mark t) || q (after mark t))) (IsExtended mark P Q)
  extended_tells t = (there (cases mark t), held)
    where
      there : ((x y : List ℕ) × (t ≡ x ++ mark ∷ y) × (has mark t ≡ true) × (until mark t ≡ x) × (after mark t ≡ y))
          ⊎ ((has mark t ≡ false) × (until mark t ≡ t) × (after mark t ≡ []))
          → (p (until mark t) && (not (has mark t) || q (after mark t))) ≡ true → IsExtended mark P Q t
      there (inl (x, y, e, h, u, w)) k =
          let parts = both _ _ k in
          let last : q (after mark t) ≡ true = sym (ap (λ z. not z || q (after mark t)) h) ∙ parts.1 in
          inr (pair_from t x y e (sym (ap p u) ∙ parts.0) (sym (ap q w) ∙ last))
      there (inr (h, u, w)) k = inl ((front t).0 (sym (ap p u) ∙ (both _ _ k).0))

      held : IsExtended mark P Q t → (p (until mark t) && (not (has mark t) || q (after mark t))) ≡ true
      held (inl h) =
          let free = lacks t h in
          also _ _ (ap p (not_cut mark t free).0 ∙ (front t).1 h) (ap (λ z. not z || q (after mark t)) (has_none mark t free))
      held (inr h) = let k = cut_of t h in also _ _ k.1 (ap (λ z. not z || q (after mark t)) k.0 ∙ k.2)

  -- a part, and perhaps a part and a mark before it
  pub prefaced_tells : ((x : List ℕ) → Q x → Lacks mark x) → Tells (λ t. (not (has mark t) && q t) || (has mark t && (p (until mark t) && q (after mark t)))) (IsPrefaced mark P Q)
  prefaced_tells free t = go (has mark t) refl
    where
      go : (b : Bool) → has mark t ≡ b → Decides ((not (has mark t) && q t) || (has mark t && (p (until mark t) && q (after mark t)))) (IsPrefaced mark P Q t)
      go true h = (
        (λ k. inr ((marked_tells t).0 (sym (ap (λ z. (not z && q t) || (has mark t && (p (until mark t) && q (after mark t)))) h) ∙ k))),
        (λ k. ap (λ z. (not z && q t) || (has mark t && (p (until mark t) && q (after mark t)))) h ∙ held k),
      )
        where
          held : IsPrefaced mark P Q t → (has mark t && (p (until mark t) && q (after mark t))) ≡ true
          held (inl k) = absurd (true≢false (sym h ∙ has_none mark t (free t k)))
          held (inr k) = (marked_tells t).1 k
      go false h = (
        (λ k. let m = sym (ap (λ z. (not z && q t) || (z && (p (until mark t) && q (after mark t)))) h) ∙ k in inl ((back t).0 (first_of (q t) m))),
        (λ k. ap (λ z. (not z && q t) || (z && (p (until mark t) && q (after mark t)))) h ∙ held k),
      )
        where
          first_of : (a : Bool) → (a || false) ≡ true → a ≡ true
          first_of true e = refl
          first_of false e = e

          first_to : (a : Bool) → a ≡ true → (a || false) ≡ true
          first_to true e = refl
          first_to false e = e

          held : IsPrefaced mark P Q t → (q t || false) ≡ true
          held (inl k) = first_to (q t) ((back t).1 k)
          held (inr k) = absurd (true≢false (sym (cut_of t k).0 ∙ h))

-- ---- a text at the front

module _ (p : List ℕ → Bool) (P : List ℕ → Type 0) (tells : Tells p P) where
  pub behind_tells : (prefix : List ℕ) → Tells (λ t. starts_with nat_eq t prefix && p (drop (length prefix) t)) (IsBehind prefix P)
  behind_tells [] t = ((λ e. record { rest = t; spelled = refl; is_rest = (tells t).0 e }), (λ h. (tells t).1 (subst P (sym h.spelled) h.is_rest)))
  behind_tells (b ∷ prefix) [] = ((λ e. cc e), (λ h. cc h.spelled))
  behind_tells (b ∷ prefix) (c ∷ t) = (there (behind_tells prefix t), held (behind_tells prefix t))
    where
      same : (x y : ℕ) → Decides (x == y) (x ≡ y)
      same = Decides-eqb

      there : Decides (starts_with nat_eq t prefix && p (drop (length prefix) t)) (IsBehind prefix P t) → (starts_with nat_eq (c ∷ t) (b ∷ prefix) && p (drop (length (b ∷ prefix)) (c ∷ t))) ≡ true → IsBehind (b ∷ prefix) P (c ∷ t)
      there rec e =
          let parts = both (starts_with nat_eq (c ∷ t) (b ∷ prefix)) (p (drop (length prefix) t)) e in
          let heads = both (b == c) (starts_with nat_eq t prefix) parts.0 in
          let h = rec.0 (also _ _ heads.1 parts.1) in
          record { rest = h.rest; spelled = ap (λ z. z ∷ t) (sym ((same b c).0 heads.0)) ∙ ap (λ z. b ∷ z) h.spelled; is_rest = h.is_rest }

      held : Decides (starts_with nat_eq t prefix && p (drop (length prefix) t)) (IsBehind prefix P t) → IsBehind (b ∷ prefix) P (c ∷ t) → (starts_with nat_eq (c ∷ t) (b ∷ prefix) && p (drop (length (b ∷ prefix)) (c ∷ t))) ≡ true
      held rec h =
          let head : c ≡ b = cc h.spelled in
          let rest : t ≡ prefix ++ h.rest = cc h.spelled in
          let k = rec.1 (record { rest = h.rest; spelled = rest; is_rest = h.is_rest }) in
          let parts = both (starts_with nat_eq t prefix) (p (drop (length prefix) t)) k in
          also _ _ (also _ _ ((same b c).1 (sym head)) parts.0) parts.1

pub any_behind_tells : (prefix : List ℕ) → Tells (λ t. starts_with nat_eq t prefix) (IsBehind prefix IsAny)
any_behind_tells prefix t = Decides-at _ _ (and_true (starts_with nat_eq t prefix)) (behind_tells (λ z. true) IsAny any_tells prefix t)

-- a part before a mark, and any text behind it
pub marked_any_tells : (mark : ℕ) (p : List ℕ → Bool) (P : List ℕ → Type 0) → Tells p P → ((x : List ℕ) → P x → Lacks mark x)
    → Tells (λ t. has mark t && p (until mark t)) (IsPair mark P IsAny)
marked_any_tells mark p P front lacks t =
    Decides-at _ _ (ap (λ z. has mark t && z) (and_true (p (until mark t)))) (marked_tells mark p (λ z. true) P IsAny front any_tells lacks t)

-- ---- bytes of a class at the front

-- no byte of the class comes next
abbrev pub Stops : (ℕ → Bool) → List ℕ → Type 0
Stops class [] = Unit {0}
Stops class (b ∷ t) = class b ≡ false

front_is : (class : ℕ → Bool) (x y : List ℕ) → IsIn class x → Stops class y → (front_in class (x ++ y) ≡ x) × (back_in class (x ++ y) ≡ y)
front_is class [] [] h s = (refl, refl)
front_is class [] (b ∷ y) h s = rw s (refl, refl)
front_is class (b ∷ x) y h s =
    let parts = both (class b) (list_all class x) h in
    let rec = front_is class x y parts.1 s in
    rw (parts.0) (ap (λ z. b ∷ z) rec.0, rec.1)

pub front_joins : (class : ℕ → Bool) (t : List ℕ) → t ≡ front_in class t ++ back_in class t
front_joins class [] = refl
front_joins class (b ∷ t) = go (class b) refl (front_joins class t)
  where
    go : (in' : Bool) → class b ≡ in' → t ≡ front_in class t ++ back_in class t → b ∷ t ≡ front_in class (b ∷ t) ++ back_in class (b ∷ t)
    go true e rec = rw e (ap (λ z. b ∷ z) rec)
    go false e rec = rw e refl

module _ (class : ℕ → Bool) (p q : List ℕ → Bool) (P Q : List ℕ → Type 0) (front : Tells p P) (back : Tells q Q) where
  pub run_tells : ((x : List ℕ) → P x → IsIn class x) → ((y : List ℕ) → Q y → Stops class y) → Tells (λ t. p (front_in class t) && q (back_in class t)) (IsRun P Q)
  run_tells within stops t = (
    (λ e. let parts = both _ _ e in record { front = front_in class t; back = back_in class t; spelled = front_joins class t; is_front = (front _).0 parts.0; is_back = (back _).0 parts.1 }),
    (λ h. let k = front_is class h.front h.back (within h.front h.is_front) (stops h.back h.is_back) in
        also _ _ (ap (λ z. p (front_in class z)) h.spelled ∙ ap p k.0 ∙ (front h.front).1 h.is_front) (ap (λ z. q (back_in class z)) h.spelled ∙ ap q k.1 ∙ (back h.back).1 h.is_back)),
  )

-- ---- a part of a size, and a part

cut_front : (x y : List ℕ) → (take (length x) (x ++ y) ≡ x) × (drop (length x) (x ++ y) ≡ y)
cut_front [] y = (refl, refl)
cut_front (b ∷ x) y = let rec = cut_front x y in (ap (λ z. b ∷ z) rec.0, rec.1)

module _ (size : ℕ) (p q : List ℕ → Bool) (P Q : List ℕ → Type 0) (front : Tells p P) (back : Tells q Q) where
  pub sized_tells : ((x : List ℕ) → P x → length x ≡ size) → Tells (λ t. p (take size t) && q (drop size t)) (IsRun P Q)
  sized_tells sized t = (
    (λ e.
        let parts = both _ _ e in
        record { front = take size t; back = drop size t; spelled = sym (take-append-drop size t); is_front = (front _).0 parts.0; is_back = (back _).0 parts.1 }),
    (λ h.
        let k = cut_front h.front h.back in
        let same : size ≡ length h.front = sym (sized h.front h.is_front) in
        let first : take size t ≡ h.front = ap (take size) h.spelled ∙ ap (λ n. take n (h.front ++ h.back)) same ∙ k.0 in
        let rest : drop size t ≡ h.back = ap (drop size) h.spelled ∙ ap (λ n. drop n (h.front ++ h.back)) same ∙ k.1 in
        also _ _ (ap p first ∙ (front h.front).1 h.is_front) (ap q rest ∙ (back h.back).1 h.is_back)),
  )

-- ---- parts joined by a mark

module _ (mark : ℕ) (p : List ℕ → Bool) (P : List ℕ → Type 0) (tells : Tells p P) (lacks : (x : List ℕ) → P x → Lacks mark x) where
  -- the same, from the left
  data FromLeft : List ℕ → Type 0 where
    last : (x : List ℕ) → P x → FromLeft x
    next : (x y : List ℕ) → P x → FromLeft y → FromLeft (x ++ mark ∷ y)

  left_push : (t part : List ℕ) → FromLeft t → P part → FromLeft (t ++ mark ∷ part)
  left_push t part (last x h) k = next x part h (last part k)
  left_push _ part (next x y h r) k = subst FromLeft (sym (append_assoc x (mark ∷ y) (mark ∷ part))) (next x (y ++ mark ∷ part) h (left_push y part r k))

  from_left : (t : List ℕ) → IsJoined (IsMark mark) P t → FromLeft t
  from_left t (one part h) = last part h
  from_left _ (more text separator part j s k) =
      let whole = left_push text part (from_left text j) k in
      subst FromLeft (sym (ap (λ z. text ++ z ++ part) s ∙ append_assoc text (mark ∷ []) part)) whole

  joined_put : (x y : List ℕ) → P x → IsJoined (IsMark mark) P y → IsJoined (IsMark mark) P (x ++ mark ∷ y)
  joined_put x y h (one part k) = subst (IsJoined (IsMark mark) P) (append_assoc x (mark ∷ []) part) (more x (mark ∷ []) part (one x h) refl k)
  joined_put x _ h (more text separator part j s k) =
      subst (IsJoined (IsMark mark) P)
      (ap (λ z. z ++ part) (append_assoc x (mark ∷ text) separator) ∙ append_assoc x (mark ∷ (text ++ separator)) part)
      (more (x ++ mark ∷ text) separator part (joined_put x text h j) s k)

  abbrev test : List ℕ → Bool
  test t = list_all p (slice_split (λ b. b == mark) t)

  left_tests : (t : List ℕ) → FromLeft t → test t ≡ true
  left_tests t (last x h) = ap (list_all p) (split_none mark x (lacks x h)) ∙ also _ _ ((tells x).1 h) refl
  left_tests _ (next x y h r) = ap (list_all p) (split_at mark x y (lacks x h)) ∙ also _ _ ((tells x).1 h) (left_tests y r)

  test_joins : (t front : List ℕ) → Lacks mark front → test (front ++ t) ≡ true → IsJoined (IsMark mark) P (front ++ t)
  test_joins [] front h e =
      let same = append-nil front in
      let k : test front ≡ true = sym (ap test same) ∙ e in
      let parts = both _ _ (sym (ap (list_all p) (split_none mark front h)) ∙ k) in
      subst (IsJoined (IsMark mark) P) (sym same) (one front ((tells front).0 parts.0))
  test_joins (b ∷ t) front h e = go (b == mark) refl (λ k. test_joins t [] tt k) (λ l k. test_joins t (front ++ b ∷ []) l k)
    where
      go : (s : Bool) → (b == mark) ≡ s → (test t ≡ true → IsJoined (IsMark mark) P t)
          → (Lacks mark (front ++ b ∷ []) → test ((front ++ b ∷ []) ++ t) ≡ true → IsJoined (IsMark mark) P ((front ++ b ∷ []) ++ t))
          → IsJoined (IsMark mark) P (front ++ b ∷ t)
      go true m fresh longer =
          let is : b ≡ mark = eqb-true b mark m in
          let k = sym (ap (λ z. test (front ++ z ∷ t)) is) ∙ e in
          let parts = both _ _ (sym (ap (list_all p) (split_at mark front t h)) ∙ k) in
          subst (λ z. IsJoined (IsMark mark) P (front ++ z ∷ t)) (sym is) (joined_put front t ((tells front).0 parts.0) (fresh parts.1))
      go false m fresh longer =
          let ne : b ≢ mark = λ is. true≢false (sym (eq-eqb b mark is) ∙ m) in
          let same = append_assoc front (b ∷ []) t in
          subst (IsJoined (IsMark mark) P) same (longer (lacks_append mark front (b ∷ []) h (ne, tt)) (ap test same ∙ e))

  pub joined_tells : Tells (λ t. list_all p (slice_split (λ b. b == mark) t)) (IsJoined (IsMark mark) P)
  joined_tells t = ((λ e. test_joins t [] tt e), (λ j. left_tests t (from_left t j)))
