-- The automaton of a digest's algorithm: inside a component or before one, or the text is none.
use Rattle.std.proofs.Common.{◌≡◌, ℕ, ◌⊎◌, ◌↔◌, ◌&&◌, Bool, true, false, cond, List, [], ◌∷◌, ◌++◌, Option, Some, None, refl, sym, subst, inl, inr, arith}
use Rattle.std.specs.List.{fold}
use Rattle.oci_base.specs.Classes.{is_lower, is_joint, IsSomeOf, IsOneOf, one, more}
use Rattle.oci_base.specs.Digest.{IsAlgorithm}
use Rattle.oci_base.proofs.Lacks.{both, Lacks, lacks_joined, lacks_one, lacks_some}
use Rattle.oci_base.proofs.Runs.{by_test, run_some, run_one, run_joined, run_describes, some_push, some_first, joined_push}

-- one byte more
abbrev pub step : Option Bool → ℕ → Option Bool
step None b = None
step (Some inside) b = cond (is_lower b) (Some true) (cond (is_joint b && inside) (Some false) None)

-- what a state says of the text so far
abbrev Describes : Option Bool → List ℕ → Type 0
Describes None text = Unit {0}
Describes (Some true) text = IsAlgorithm text
Describes (Some false) text = (text ≡ []) ⊎ ((front joint : List ℕ) × IsAlgorithm front × IsOneOf is_joint joint × (text ≡ front ++ joint))

-- a byte keeps it
keeps : (s : Option Bool) (front : List ℕ) (b : ℕ) → Describes s front → Describes (step s b) (front ++ b ∷ [])
keeps None front b d = tt
keeps (Some true) front b d =
    by_test (λ s. Describes s (front ++ b ∷ [])) (is_lower b) _ _
    (λ h. joined_push (IsOneOf is_joint) (IsSomeOf is_lower) b (λ p k. some_push is_lower p b k h) front d)
    (λ _. by_test (λ s. Describes s (front ++ b ∷ [])) (is_joint b && true) _ _
    (λ h. inr (front, b ∷ [], d, (b, (both (is_joint b) true h).0, refl), refl))
    (λ _. tt))
keeps (Some false) front b d =
    by_test (λ s. Describes s (front ++ b ∷ [])) (is_lower b) _ _
    (λ h. begun h d)
    (λ _. by_test (λ s. Describes s (front ++ b ∷ [])) (is_joint b && false) _ _
    (λ h. absurd (grind (arith, both (is_joint b) false h)))
    (λ _. tt))
  where
    begun : is_lower b ≡ true → (front ≡ []) ⊎ ((u joint : List ℕ) × IsAlgorithm u × IsOneOf is_joint joint × (front ≡ u ++ joint)) → IsAlgorithm (front ++ b ∷ [])
    begun h (inl e) = subst (λ t. IsAlgorithm (t ++ b ∷ [])) (sym e) (one (b ∷ []) (some_first is_lower b h))
    begun h (inr (u, joint, j, k, e)) = subst (λ t. IsAlgorithm (t ++ b ∷ [])) (sym e) (more u joint (b ∷ []) j k (some_first is_lower b h))

-- runs over the parts
abbrev Is : Option Bool → Option Bool → Type 0
Is s t = t ≡ s

over_component : (t : List ℕ) → IsSomeOf is_lower t → (s : Option Bool) → s ≡ Some false → fold step s t ≡ Some true
over_component = run_some step is_lower (Is (Some false)) (Is (Some true))
    (λ s b h e. rw (e, h) refl) (λ s b h e. rw (e, h) refl)

-- the two classes are apart
pub joint_not_lower : (b : ℕ) → is_joint b ≡ true → is_lower b ≡ false
joint_not_lower b h = grind arith

over_joint : (t : List ℕ) → IsOneOf is_joint t → (s : Option Bool) → s ≡ Some true → fold step s t ≡ Some false
over_joint = run_one step is_joint (Is (Some true)) (Is (Some false)) (λ s b h e. rw (e, joint_not_lower b h, h) refl)

-- the automaton accepts just the algorithms
pub accepts : (t : List ℕ) → (fold step (Some false) t ≡ Some true) ↔ IsAlgorithm t
accepts t = (
  (λ e. subst (λ s. Describes s t) e (run_describes step Describes keeps [] t (Some false) (inl refl))),
  (λ j. run_joined step (Is (Some false)) (Is (Some true)) (IsOneOf is_joint) (IsSomeOf is_lower) over_component over_joint t j (Some false) refl),
)

-- once refused, for good
pub stuck : (t : List ℕ) → fold step None t ≡ None
stuck [] = refl
stuck (b ∷ t) = stuck t

-- an algorithm has no colon
pub no_colon : (a : List ℕ) → IsAlgorithm a → Lacks 58 a
no_colon a h = lacks_joined 58 (IsOneOf is_joint) (IsSomeOf is_lower) (lacks_one is_joint 58 refl) (lacks_some is_lower 58 refl) a h
