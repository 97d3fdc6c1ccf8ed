-- Bytes that a text lacks, and cuts at such a byte.
use Rattle.std.proofs.Common.{◌<◌, zero, suc, length, get_or, arith, ◌≡◌, ◌≢◌, ℕ, Bool, true, false, List, [], ◌∷◌, ◌++◌, refl, sym, ap, ◌∙◌, subst, ◌&&◌}
use Rattle.std.specs.List.{list_all}
use Rattle.oci_base.specs.Classes.{IsIn, IsSomeOf, IsOneOf, IsJoined, one, more}

-- the byte doesn't occur in the text
abbrev pub Lacks : ℕ → List ℕ → Type 0
Lacks c [] = Unit {0}
Lacks c (b ∷ text) = (b ≢ c) × Lacks c text

pub both : (a b : Bool) → (a && b) ≡ true → (a ≡ true) × (b ≡ true)
both true true h = (refl, refl)
both true false h = cc h
both false b h = cc h

-- a text in a class lacks what is not in the class
pub lacks_in : (class : ℕ → Bool) (c : ℕ) → class c ≡ false → (text : List ℕ) → IsIn class text → Lacks c text
lacks_in class c out [] h = tt
lacks_in class c out (b ∷ text) h =
    let parts = both (class b) (list_all class text) h in
    ((λ e. let clash : true ≡ false = sym parts.0 ∙ ap class e ∙ out in cc clash), lacks_in class c out text parts.1)

pub lacks_some : (class : ℕ → Bool) (c : ℕ) → class c ≡ false → (text : List ℕ) → IsSomeOf class text → Lacks c text
lacks_some class c out text h = lacks_in class c out text h.1

pub lacks_one : (class : ℕ → Bool) (c : ℕ) → class c ≡ false → (text : List ℕ) → IsOneOf class text → Lacks c text
lacks_one class c out text (b, h, e) =
    let P : List ℕ → Type 0 = λ t. Lacks c t in
    subst P (sym e) ((λ same. let clash : true ≡ false = sym h ∙ ap class same ∙ out in cc clash), tt)

pub lacks_append : (c : ℕ) (x y : List ℕ) → Lacks c x → Lacks c y → Lacks c (x ++ y)
lacks_append c [] y h k = k
lacks_append c (b ∷ x) y h k = (h.0, lacks_append c x y h.1 k)

pub lacks_front : (c : ℕ) (x y : List ℕ) → Lacks c (x ++ y) → Lacks c x
lacks_front c [] y h = tt
lacks_front c (b ∷ x) y h = (h.0, lacks_front c x y h.1)

pub lacks_joined : (c : ℕ) (Separator Part : List ℕ → Type 0)
    → ((s : List ℕ) → Separator s → Lacks c s) → ((p : List ℕ) → Part p → Lacks c p)
    → (text : List ℕ) → IsJoined Separator Part text → Lacks c text
lacks_joined c Separator Part hs hp text (one part h) = hp text h
lacks_joined c Separator Part hs hp _ (more text separator part j s p) =
    lacks_append c (text ++ separator) part (lacks_append c text separator (lacks_joined c Separator Part hs hp text j) (hs separator s)) (hp part p)

-- two cuts at the first such byte are one
pub cut_once : (c : ℕ) (x x' y y' : List ℕ) → Lacks c x → Lacks c x' → x ++ c ∷ y ≡ x' ++ c ∷ y' → (x ≡ x') × (y ≡ y')
cut_once c [] [] y y' h h' e = (refl, cc e)
cut_once c [] (b ∷ x') y y' h h' e = absurd (h'.0 (cc e))
cut_once c (b ∷ x) [] y y' h h' e = absurd (h.0 (cc e))
cut_once c (b ∷ x) (b' ∷ x') y y' h h' e =
    let head : b ≡ b' = cc e in
    let rest : x ++ c ∷ y ≡ x' ++ c ∷ y' = cc e in
    let (front, back) = cut_once c x x' y y' h.1 h'.1 rest in
    (cc (head, front), back)

-- by index
pub lacks_at : (c : ℕ) (text : List ℕ) → Lacks c text → (i : ℕ) → i < length text → get_or text i 0 ≢ c
lacks_at c [] h i lt = absurd (omega arith)
lacks_at c (b ∷ text) h zero lt = h.0
lacks_at c (b ∷ text) h (suc i) lt = lacks_at c text h.1 i (omega arith)

pub lacks_from : (c : ℕ) (text : List ℕ) → ((i : ℕ) → i < length text → get_or text i 0 ≢ c) → Lacks c text
lacks_from c [] h = tt
lacks_from c (b ∷ text) h = (h zero (omega arith), lacks_from c text (λ i lt. h (suc i) (omega arith)))
