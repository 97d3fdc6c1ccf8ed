-- The first piece of a licence expression.
use Rattle.std.proofs.Common.{◌≡◌, ◌≢◌, ℕ, ◌+◌, ◌-◌, ◌<◌, ◌≤◌, Bool, true, false, List, [], ◌∷◌, ◌++◌, Option, Some, None, length, take, drop, map, option_map, refl, sym, ap, ◌∙◌, true≢false, ne_eqb, length-append, arith}
use Rattle.std.specs.Prelude.{codes, bytes_eq, ◌==◌, if◌then◌else◌}
use Rattle.std.specs.List.{fold, onto_first}
use Rattle.std.proofs.lemmas.Bool.{eqb-true, eq-eqb}
use Rattle.std.proofs.lemmas.Slice.Eq.{bytes_eq-Decides}
use Rattle.oci_grammars.specs.Classes.{is_word_byte}
use Rattle.oci_grammars.specs.Decided.{front_in, back_in}
use Rattle.oci_grammars.specs.DecidedLicenses.{at, closed, next, next_by, after_piece, put_word, put_piece}
use Rattle.oci_grammars.specs.Licenses.{begins_word, pieces, kind_of, kinds}
use Rattle.oci_grammars.specs.declared.licenses.Kind.{Kind}
use Rattle.oci_grammars.specs.declared.licenses.Kind.TheVariants.{Name, License, Operator, With, OpenMark, CloseMark, NoKind}
use Rattle.oci_grammars.specs.declared.licenses.Phase.{Phase}
use Rattle.oci_grammars.specs.declared.licenses.Phase.TheVariants.{Wanted, Simple, Excepting, Done, Broken}
use Rattle.oci_grammars.specs.declared.licenses.Progress.{Progress}
use Rattle.oci_grammars.proofs.Deciding.{front_joins}

-- a word is taken off whole
pub word_first : (t : List ℕ) → begins_word t ≡ true → pieces t ≡ front_in is_word_byte t ∷ pieces (back_in is_word_byte t)
word_first [] h = cc h
word_first (b ∷ t) h = let e : is_word_byte b ≡ true = h in rw e (go (begins_word t) refl (word_first t))
  where
    stops : (t : List ℕ) → begins_word t ≡ false → (front_in is_word_byte t ≡ []) × (back_in is_word_byte t ≡ t)
    stops [] e = (refl, refl)
    stops (c ∷ t) e = rw e (refl, refl)

    go : (w : Bool) → begins_word t ≡ w → (begins_word t ≡ true → pieces t ≡ front_in is_word_byte t ∷ pieces (back_in is_word_byte t))
        → (if begins_word t then onto_first b (pieces t) else (b ∷ []) ∷ pieces t) ≡ (b ∷ front_in is_word_byte t) ∷ pieces (back_in is_word_byte t)
    go true e rec = rw (e, rec e) refl
    go false e rec = let k = stops t e in rw e (ap (λ z. (b ∷ z) ∷ pieces t) (sym k.0) ∙ ap (λ z. (b ∷ front_in is_word_byte t) ∷ pieces z) (sym k.1))

pub mark_first : (b : ℕ) (t : List ℕ) → is_word_byte b ≡ false → (b == 32) ≡ false → pieces (b ∷ t) ≡ (b ∷ []) ∷ pieces t
mark_first b t h e = rw (h, e) refl

pub space_first : (b : ℕ) (t : List ℕ) → is_word_byte b ≡ false → (b == 32) ≡ true → pieces (b ∷ t) ≡ pieces t
space_first b t h e = rw (h, e) refl

pub goes_on : (p : Progress) (o : Option Kind) (ks : List Kind) → fold next (after_piece p o) ks ≡ fold next p (put_piece o ks)
goes_on p None ks = refl
goes_on p (Some k) ks = refl

-- ---- as the code cuts it

no_word : (t : List ℕ) → length (front_in is_word_byte t) ≡ 0 → begins_word t ≡ false
no_word [] h = refl
no_word (b ∷ t) h = go (is_word_byte b) refl h
  where
    go : (w : Bool) → is_word_byte b ≡ w → length (front_in is_word_byte (b ∷ t)) ≡ 0 → is_word_byte b ≡ false
    go true e k = let clash = rw e at k in absurd (omega (arith, clash))
    go false e k = e

some_word : (t : List ℕ) → length (front_in is_word_byte t) ≢ 0 → begins_word t ≡ true
some_word [] h = absurd (h refl)
some_word (b ∷ t) h = go (is_word_byte b) refl h
  where
    go : (w : Bool) → is_word_byte b ≡ w → length (front_in is_word_byte (b ∷ t)) ≢ 0 → is_word_byte b ≡ true
    go true e k = e
    go false e k = let clash = rw e at k in absurd (clash refl)

-- the test for a word
apart : (n : ℕ) → (n == 0) ≡ false → n ≢ 0
apart n h e = true≢false (sym (eq-eqb n 0 e) ∙ h)

pub pieces_word : (t : List ℕ) → (length (front_in is_word_byte t) == 0) ≡ false → pieces t ≡ front_in is_word_byte t ∷ pieces (back_in is_word_byte t)
pieces_word t h = word_first t (some_word t (apart (length (front_in is_word_byte t)) h))

pub pieces_space : (t : List ℕ) → (length (front_in is_word_byte t) == 0) ≡ true → bytes_eq (take 1 t) (codes " ") ≡ true → pieces t ≡ pieces (drop 1 t)
pieces_space t h e = go t (no_word t (eqb-true (length (front_in is_word_byte t)) 0 h)) ((bytes_eq-Decides (take 1 t) (codes " ")).0 e)
  where
    go : (t : List ℕ) → begins_word t ≡ false → take 1 t ≡ 32 ∷ [] → pieces t ≡ pieces (drop 1 t)
    go [] h e = refl
    go (b ∷ t) h e = let same : b ≡ 32 = cc e in space_first b t h (eq-eqb b 32 same)

pub pieces_mark : (t : List ℕ) → 0 < length t → (length (front_in is_word_byte t) == 0) ≡ true → bytes_eq (take 1 t) (codes " ") ≡ false → pieces t ≡ take 1 t ∷ pieces (drop 1 t)
pieces_mark t some h e = go t some (no_word t (eqb-true (length (front_in is_word_byte t)) 0 h)) (λ s. true≢false (sym ((bytes_eq-Decides (take 1 t) (codes " ")).1 s) ∙ e))
  where
    go : (t : List ℕ) → 0 < length t → begins_word t ≡ false → take 1 t ≢ 32 ∷ [] → pieces t ≡ take 1 t ∷ pieces (drop 1 t)
    go [] some h ne = absurd (omega (arith, some))
    go (b ∷ t) some h ne = mark_first b t h (ne_eqb b 32 (λ e. ne (ap (λ z. z ∷ []) e)))

-- the kinds of the pieces
pub put_kinds : (o : Option (List ℕ)) (t rest : List ℕ) → pieces t ≡ put_word o (pieces rest) → kinds t ≡ put_piece (option_map kind_of o) (kinds rest)
put_kinds None t rest e = ap (map kind_of) e
put_kinds (Some word) t rest e = ap (map kind_of) e

pub shorter_back : (t : List ℕ) → (length (front_in is_word_byte t) == 0) ≡ false → length (back_in is_word_byte t) < length t
shorter_back t h =
    let size : length t ≡ length (front_in is_word_byte t ++ back_in is_word_byte t) = ap length (front_joins is_word_byte t) in
    let some : length (front_in is_word_byte t) ≢ 0 = apart (length (front_in is_word_byte t)) h in
    omega (arith, some, size, length-append (front_in is_word_byte t) (back_in is_word_byte t))

pub deeper_by_one : (p : Progress) (o : Option Kind) → (after_piece p o).depth ≤ p.depth + 1
deeper_by_one p None = omega arith
deeper_by_one p (Some k) = by p.phase p.depth k
  where
    closed_small : (d : ℕ) → (closed d).depth ≤ d + 1
    closed_small d = go (d == 0)
      where
        go : (z : Bool) → (if z then at Broken d else at Done (d - 1)).depth ≤ d + 1
        go true = omega arith
        go false = omega arith

    by : (f : Phase) (d : ℕ) (k : Kind) → (next_by f d k).depth ≤ d + 1
    by Wanted d Name = omega arith
    by Wanted d License = omega arith
    by Wanted d Operator = omega arith
    by Wanted d With = omega arith
    by Wanted d OpenMark = omega arith
    by Wanted d CloseMark = omega arith
    by Wanted d NoKind = omega arith
    by Simple d Name = omega arith
    by Simple d License = omega arith
    by Simple d Operator = omega arith
    by Simple d With = omega arith
    by Simple d OpenMark = omega arith
    by Simple d CloseMark = closed_small d
    by Simple d NoKind = omega arith
    by Excepting d Name = omega arith
    by Excepting d License = omega arith
    by Excepting d Operator = omega arith
    by Excepting d With = omega arith
    by Excepting d OpenMark = omega arith
    by Excepting d CloseMark = omega arith
    by Excepting d NoKind = omega arith
    by Done d Name = omega arith
    by Done d License = omega arith
    by Done d Operator = omega arith
    by Done d With = omega arith
    by Done d OpenMark = omega arith
    by Done d CloseMark = closed_small d
    by Done d NoKind = omega arith
    by Broken d k = omega arith
