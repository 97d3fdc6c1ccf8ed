-- Names behind marks.
use Rattle.std.proofs.Common.{◌≡◌, ◌<◌, ◌≤◌, ◌+◌, ℕ, zero, suc, List, [], ◌∷◌, ◌++◌, codes, length, drop, map, get_or, refl, sym, ap, ◌∙◌, Result, Ok, Err, is_ok, arith}
use Rattle.std.specs.Prelude.{OnOk, if◌then◌else◌}
use Rattle.std.proofs.lemmas.List.{append_assoc, append-nil}
use Rattle.oci_findings.specs.Wording.{marked}

marked_at : {X : Type 0} (f : X → List ℕ) (mark : List ℕ) (xs : List X) (i : ℕ) (d : X) → i < length xs
    → marked mark (map f (drop i xs)) ≡ mark ++ f (get_or xs i d) ++ marked (codes ", ") (map f (drop (suc i) xs))
marked_at f mark [] i d lt = absurd (omega arith)
marked_at f mark (y ∷ ys) zero d lt = refl
marked_at f mark (y ∷ ys) (suc i) d lt = marked_at f mark ys i d (omega arith)

pub marked_step : {X : Type 0} (f : X → List ℕ) (text mark m new all : List ℕ) (xs : List X) (i : ℕ) (d : X) → i < length xs → m ≡ mark → new ≡ text ++ (m ++ f (get_or xs i d))
    → text ++ marked mark (map f (drop i xs)) ≡ all → new ++ marked (codes ", ") (map f (drop (i + 1) xs)) ≡ all
marked_step f text mark m new all xs i d lt same made so =
    let step : i + 1 ≡ suc i = omega arith in
    let name : List ℕ = f (get_or xs i d) in
    let rest : List ℕ = marked (codes ", ") (map f (drop (suc i) xs)) in
    ap (λ n. new ++ marked (codes ", ") (map f (drop n xs))) step ∙ ap (λ z. z ++ rest) (made ∙ ap (λ z. text ++ (z ++ name)) same) ∙ append_assoc text (mark ++ name) rest
    ∙ ap (λ z. text ++ z) (sym (marked_at f mark xs i d lt)) ∙ so

none_left : {X : Type 0} (f : X → List ℕ) (mark : List ℕ) (xs : List X) (i : ℕ) → length xs ≤ i → marked mark (map f (drop i xs)) ≡ []
none_left f mark [] zero h = refl
none_left f mark [] (suc i) h = refl
none_left f mark (y ∷ ys) zero h = absurd (omega arith)
none_left f mark (y ∷ ys) (suc i) h = none_left f mark ys i (omega arith)

pub marked_end : {X : Type 0} (f : X → List ℕ) (text mark all : List ℕ) (xs : List X) (i : ℕ) → length xs ≤ i → text ++ marked mark (map f (drop i xs)) ≡ all → text ≡ all
marked_end f text mark all xs i h so =
    sym (append-nil text) ∙ ap (λ z. text ++ z) (sym (none_left f mark xs i h)) ∙ so

-- ---- texts that grow

pub pushed : {A E : Type 0} (r : Result A E) (new old s : List ℕ) → new ≡ (if is_ok r then old ++ s else old) → OnOk r (new ≡ old ++ s)
pushed (Ok x) new old s e = e
pushed (Err x) new old s e = tt

-- the words of what they are about
pub pushed_words : {A E : Type 0} (r : Result A E) (new old s words : List ℕ) → words ≡ s → new ≡ (if is_ok r then old ++ s else old) → OnOk r (new ≡ old ++ words)
pushed_words (Ok x) new old s words same e = e ∙ ap (λ z. old ++ z) (sym same)
pushed_words (Err x) new old s words same e = tt

pub three_pushed : (text a b c first second third : List ℕ) → first ≡ text ++ a → second ≡ first ++ b → third ≡ second ++ c → third ≡ text ++ (a ++ (b ++ c))
three_pushed text a b c first second third e1 e2 e3 =
    e3 ∙ ap (λ z. z ++ c) (e2 ∙ ap (λ z. z ++ b) e1) ∙ append_assoc (text ++ a) b c ∙ append_assoc text a (b ++ c)
