-- Runs of an automaton over texts that are made of parts, and how parts grow by a byte at the end.
use Rattle.std.proofs.Common.{◌≡◌, ℕ, Bool, true, false, cond, List, [], ◌∷◌, ◌++◌, refl, sym, subst, append_assoc, append-nil, length-append, arith}
use Rattle.std.specs.List.{list_all, fold}
use Rattle.std.proofs.lemmas.Grind.{fold-append}
use Rattle.oci_base.specs.Classes.{IsIn, IsSomeOf, IsOneOf, IsMark, IsJoined, one, more}
use Rattle.oci_base.proofs.Lacks.{both}

-- what holds of both outcomes of a test
pub by_test : {S : Type 0} (P : S → Type 0) (test : Bool) (x y : S) → (test ≡ true → P x) → (test ≡ false → P y) → P (cond test x y)
by_test P true x y on off = on refl
by_test P false x y on off = off refl

-- From P to Q: what a run over a text does to a state.
module _ {S : Type 0} (step : S → ℕ → S) where
  pub run_class : (class : ℕ → Bool) (P : S → Type 0) → ((s : S) (b : ℕ) → class b ≡ true → P s → P (step s b))
      → (text : List ℕ) → IsIn class text → (s : S) → P s → P (fold step s text)
  run_class class P keeps [] h s p = p
  run_class class P keeps (b ∷ text) h s p =
      let parts = both (class b) (list_all class text) h in
      run_class class P keeps text parts.1 (step s b) (keeps s b parts.0 p)

  pub run_some : (class : ℕ → Bool) (P Q : S → Type 0) → ((s : S) (b : ℕ) → class b ≡ true → P s → Q (step s b))
      → ((s : S) (b : ℕ) → class b ≡ true → Q s → Q (step s b))
      → (text : List ℕ) → IsSomeOf class text → (s : S) → P s → Q (fold step s text)
  run_some class P Q enters keeps [] h s p = absurd (omega (arith, h.0))
  run_some class P Q enters keeps (b ∷ text) h s p =
      let parts = both (class b) (list_all class text) h.1 in
      run_class class Q keeps text parts.1 (step s b) (enters s b parts.0 p)

  pub run_one : (class : ℕ → Bool) (P Q : S → Type 0) → ((s : S) (b : ℕ) → class b ≡ true → P s → Q (step s b))
      → (text : List ℕ) → IsOneOf class text → (s : S) → P s → Q (fold step s text)
  run_one class P Q enters text (b, h, e) s p = subst (λ (t : List ℕ). Q (fold step s t)) (sym e) (enters s b h p)

  pub run_mark : (mark : ℕ) (P Q : S → Type 0) → ((s : S) → P s → Q (step s mark))
      → (text : List ℕ) → IsMark mark text → (s : S) → P s → Q (fold step s text)
  run_mark mark P Q enters text e s p = subst (λ (t : List ℕ). Q (fold step s t)) (sym e) (enters s p)

  pub run_append : (P Q R : S → Type 0) (x y : List ℕ) → ((s : S) → P s → Q (fold step s x)) → ((s : S) → Q s → R (fold step s y))
      → (s : S) → P s → R (fold step s (x ++ y))
  run_append P Q R x y first second s p = subst R (sym (fold-append step s x y)) (second (fold step s x) (first s p))

  pub run_joined : (P Q : S → Type 0) (Separator Part : List ℕ → Type 0)
      → ((t : List ℕ) → Part t → (s : S) → P s → Q (fold step s t)) → ((t : List ℕ) → Separator t → (s : S) → Q s → P (fold step s t))
      → (text : List ℕ) → IsJoined Separator Part text → (s : S) → P s → Q (fold step s text)
  run_joined P Q Separator Part over_part over_separator text (one part h) s p = over_part text h s p
  run_joined P Q Separator Part over_part over_separator _ (more text separator part j h k) s p =
      run_append P P Q (text ++ separator) part
      (run_append P Q P text separator (run_joined P Q Separator Part over_part over_separator text j) (over_separator separator h))
      (over_part part k) s p

  -- what a state says of the text so far, kept by each step, is kept by a run
  pub run_describes : (Describes : S → List ℕ → Type 0) → ((s : S) (front : List ℕ) (b : ℕ) → Describes s front → Describes (step s b) (front ++ b ∷ []))
      → (front text : List ℕ) (s : S) → Describes s front → Describes (fold step s text) (front ++ text)
  run_describes Describes keeps front [] s d = subst (Describes s) (sym (append-nil front)) d
  run_describes Describes keeps front (b ∷ text) s d =
      subst (Describes (fold step (step s b) text)) (append_assoc front (b ∷ []) text)
      (run_describes Describes keeps (front ++ b ∷ []) text (step s b) (keeps s front b d))

-- Texts of a class.
pub in_cons : (class : ℕ → Bool) (b : ℕ) (x : List ℕ) → class b ≡ true → IsIn class x → IsIn class (b ∷ x)
in_cons class b x h k = rw h k

pub in_wider : (class wider : ℕ → Bool) → ((b : ℕ) → class b ≡ true → wider b ≡ true) → (x : List ℕ) → IsIn class x → IsIn wider x
in_wider class wider w [] h = refl
in_wider class wider w (b ∷ x) h =
    let parts = both (class b) (list_all class x) h in
    in_cons wider b x (w b parts.0) (in_wider class wider w x parts.1)

-- How parts grow by a byte at the end.
pub in_push : (class : ℕ → Bool) (text : List ℕ) (b : ℕ) → IsIn class text → class b ≡ true → IsIn class (text ++ b ∷ [])
in_push class [] b h k = rw k refl
in_push class (c ∷ text) b h k =
    let parts = both (class c) (list_all class text) h in
    rw (parts.0) (in_push class text b parts.1 k)

pub some_push : (class : ℕ → Bool) (text : List ℕ) (b : ℕ) → IsSomeOf class text → class b ≡ true → IsSomeOf class (text ++ b ∷ [])
some_push class text b h k = (omega (arith, length-append text (b ∷ []), h.0), in_push class text b h.1 k)

pub some_first : (class : ℕ → Bool) (b : ℕ) → class b ≡ true → IsSomeOf class (b ∷ [])
some_first class b k = (omega arith, rw k refl)

pub joined_push : (Separator Part : List ℕ → Type 0) (b : ℕ) → ((p : List ℕ) → Part p → Part (p ++ b ∷ []))
    → (text : List ℕ) → IsJoined Separator Part text → IsJoined Separator Part (text ++ b ∷ [])
joined_push Separator Part b grows text (one part h) = one (part ++ b ∷ []) (grows part h)
joined_push Separator Part b grows _ (more text separator part j h k) =
    subst (IsJoined Separator Part) (sym (append_assoc (text ++ separator) part (b ∷ []))) (more text separator (part ++ b ∷ []) j h (grows part k))
