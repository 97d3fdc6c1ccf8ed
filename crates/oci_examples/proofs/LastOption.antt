-- Whether `ro` or `rw` comes last, told by going through the options from the front.
use Rattle.std.proofs.Common.{◌≡◌, ℕ, zero, suc, List, [], ◌∷◌, Bool, true, false, Some, codes, refl, ap, inl, inr}
use Rattle.std.specs.Prelude.{◌≢◌, ◌⊎◌, ◌↔◌, bytes_eq, fold, if◌then◌else◌}
use Rattle.std.specs.Bool.{Decides}
use Rattle.std.proofs.lemmas.Slice.Eq.{bytes_eq-Decides}
use Rattle.oci_examples.specs.Policy.{Lacks, LastIsReadOnly, read_only_after}

one_more : (o : List ℕ) (os : List (List ℕ)) (t : List ℕ) → o ≢ t → Lacks os t → Lacks (o ∷ os) t
one_more o os t not_it others zero = λ e. not_it (cc)
one_more o os t not_it others (suc k) = others k

-- what is told at the front of the others, where `b` was told before
abbrev Told : Bool → Bool → List (List ℕ) → Type 0
Told b r os = (r ≡ true) ↔ (LastIsReadOnly os ⊎ ((b ≡ true) × Lacks os (codes "rw")))

more : (b ro wr r : Bool) (o : List ℕ) (os : List (List ℕ)) → Decides ro (o ≡ codes "ro") → Decides wr (o ≡ codes "rw") → Told (if ro then true else if wr then false else b) r os → Told b r (o ∷ os)
more b true wr r o os is_ro is_rw here = (
  λ e. elim (here.0 e) [ inl later ↦ inl (inl later) | inr p ↦ inl (inr (is_ro.0 refl, p.1)) ],
  λ s. here.1 (elim s [ inl t ↦ elim t [ inl later ↦ inl later | inr q ↦ inr (refl, q.1) ] | inr q ↦ inr (refl, λ k. q.1 (suc k)) ]),
)
more b false true r o os is_ro is_rw here = (
  λ e. elim (here.0 e) [ inl later ↦ inl (inl later) | inr p ↦ cc ],
  λ s. here.1 (elim s [ inl t ↦ elim t [ inl later ↦ inl later | inr q ↦ absurd (cc (is_ro.1 q.0)) ] | inr q ↦ absurd (q.1 0 (ap Some (is_rw.0 refl))) ]),
)
more b false false r o os is_ro is_rw here = (
  λ e. elim (here.0 e) [ inl later ↦ inl (inl later) | inr p ↦ inr (p.0, one_more o os (codes "rw") (λ i. cc (is_rw.1 i)) p.1) ],
  λ s. here.1 (elim s [ inl t ↦ elim t [ inl later ↦ inl later | inr q ↦ absurd (cc (is_ro.1 q.0)) ] | inr q ↦ inr (q.0, λ k. q.1 (suc k)) ]),
)

-- told by going through them
pub told : (b : Bool) (os : List (List ℕ)) → Told b (fold read_only_after b os) os
told b [] = (λ e. inr (e, λ k x. cc), λ s. elim s [ inl none ↦ absurd none | inr p ↦ p.0 ])
told b (o ∷ os) = more b (bytes_eq o (codes "ro")) (bytes_eq o (codes "rw")) _ o os (bytes_eq-Decides o (codes "ro")) (bytes_eq-Decides o (codes "rw")) (told (read_only_after b o) os)

-- at first none was
pub told_of_all : (os : List (List ℕ)) → (fold read_only_after false os ≡ true) ↔ LastIsReadOnly os
told_of_all os = (
  λ e. elim ((told false os).0 e) [ inl it ↦ it | inr p ↦ absurd (cc p.0) ],
  λ it. (told false os).1 (inl it),
)
