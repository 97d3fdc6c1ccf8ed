-- Licence expressions are read piece by piece.
use Rattle.std.proofs.Common.{◌≡◌, ℕ, zero, suc, ◌+◌, ◌-◌, Bool, true, false, List, [], ◌∷◌, ◌++◌, refl, sym, ap, ◌∙◌, subst, append_assoc, append-nil, arith}
use Rattle.std.specs.Prelude.{◌==◌, if◌then◌else◌}
use Rattle.std.specs.List.{fold}
use Rattle.std.proofs.lemmas.Bool.{eqb-true, eq-eqb}
use Rattle.std.proofs.lemmas.Grind.{fold-append}
use Rattle.oci_base.proofs.Lacks.{both}
use Rattle.oci_grammars.specs.DecidedLicenses.{at, closed, next, next_by, is_ended, is_whole, begun, is_spdx_expression}
use Rattle.oci_grammars.specs.Licenses.{kinds, IsSimple, name, license, IsExpression, simple, excepted, wrapped, joined, IsSpdxExpression}
use Rattle.oci_grammars.specs.declared.licenses.Kind.{Kind}
use Rattle.oci_grammars.specs.declared.licenses.Kind.TheVariants.{Name, License, Operator, With, OpenMark, CloseMark, NoKind}
use Rattle.oci_grammars.specs.declared.licenses.Phase.{Phase}
use Rattle.oci_grammars.specs.declared.licenses.Phase.TheVariants.{Wanted, Simple, Excepting, Done, Broken}
use Rattle.oci_grammars.specs.declared.licenses.Progress.{Progress}
use Rattle.oci_grammars.proofs.Deciding.{Tells}

-- ---- what a prefix may be

-- an expression may follow
abbrev Next : List Kind → Type 0
Next v = (e : List Kind) → IsExpression e → IsExpression (v ++ e)

-- in this many parentheses an expression may follow
data Open : ℕ → List Kind → Type 0 where
  first : (v : List Kind) → Next v → Open 0 v
  deeper : (n : ℕ) (u v : List Kind) → Open n u → Next v → Open (suc n) (u ++ OpenMark ∷ v)

-- in this many parentheses an expression ends
data Ended : ℕ → List Kind → Type 0 where
  whole : (v : List Kind) → IsExpression v → Ended 0 v
  inner : (n : ℕ) (u v : List Kind) → Open n u → IsExpression v → Ended (suc n) (u ++ OpenMark ∷ v)

-- an expression comes
fills : (n : ℕ) (u e : List Kind) → Open n u → IsExpression e → Ended n (u ++ e)
fills _ u e (first v next') h = whole (v ++ e) (next' e h)
fills _ _ e (deeper n u v open' next') h = subst (Ended (suc n)) (sym (append_assoc u (OpenMark ∷ v) e)) (inner n u (v ++ e) open' (next' e h))

-- an operator comes
next_of : (v : List Kind) → IsExpression v → Next (v ++ Operator ∷ [])
next_of v h e k = subst IsExpression (sym (append_assoc v (Operator ∷ []) e)) (joined v e h k)

goes_on : (n : ℕ) (t : List Kind) → Ended n t → Open n (t ++ Operator ∷ [])
goes_on _ t (whole v h) = first (v ++ Operator ∷ []) (next_of v h)
goes_on _ _ (inner n u v open' h) =
    subst (Open (suc n)) (sym (append_assoc u (OpenMark ∷ v) (Operator ∷ []))) (deeper n u (v ++ Operator ∷ []) open' (next_of v h))

-- a parenthesis opens
opens : (n : ℕ) (t : List Kind) → Open n t → Open (suc n) (t ++ OpenMark ∷ [])
opens n t open' = deeper n t [] open' (λ e h. h)

-- a parenthesis closes
closes : (n : ℕ) (t : List Kind) → Ended (suc n) t → Ended n (t ++ CloseMark ∷ [])
closes n _ (inner _ u v open' h) = subst (Ended n) (sym (append_assoc u (OpenMark ∷ v) (CloseMark ∷ []))) (fills n u (OpenMark ∷ (v ++ CloseMark ∷ [])) open' (wrapped v h))

-- ---- what a phase says

abbrev IsAfterSimple : ℕ → List Kind → Type 0
IsAfterSimple n t = (u : List Kind) × (k : Kind) × Open n u × IsSimple k × (t ≡ u ++ k ∷ [])

abbrev IsAfterWith : ℕ → List Kind → Type 0
IsAfterWith n t = (u : List Kind) × (k : Kind) × Open n u × IsSimple k × (t ≡ u ++ k ∷ With ∷ [])

abbrev SaysBy : Phase → ℕ → List Kind → Type 0
SaysBy Wanted n t = Open n t
SaysBy Simple n t = IsAfterSimple n t
SaysBy Excepting n t = IsAfterWith n t
SaysBy Done n t = Ended n t
SaysBy Broken n t = Unit {0}

abbrev Says : Progress → List Kind → Type 0
Says p t = SaysBy p.phase p.depth t

simple_ends : (n : ℕ) (t : List Kind) → IsAfterSimple n t → Ended n t
simple_ends n t (u, k, open', h, e) = subst (Ended n) (sym e) (fills n u (k ∷ []) open' (simple k h))

shut : (n : ℕ) (t : List Kind) → Ended n t → Says (closed n) (t ++ CloseMark ∷ [])
shut zero t h = tt
shut (suc n) t h = go (suc n == 0) refl
  where
    go : (z : Bool) → (suc n == 0) ≡ z → Says (if suc n == 0 then at Broken (suc n) else at Done (suc n - 1)) (t ++ CloseMark ∷ [])
    go true e = let clash : suc n ≡ 0 = eqb-true (suc n) 0 e in cc clash
    go false e = let less : suc n - 1 ≡ n = omega arith in rw (e, less) (closes n t h)

says_done : (n : ℕ) (t : List Kind) (k : Kind) → Ended n t → Says (next_by Done n k) (t ++ k ∷ [])
says_done n t Name h = tt
says_done n t License h = tt
says_done n t Operator h = goes_on n t h
says_done n t With h = tt
says_done n t OpenMark h = tt
says_done n t CloseMark h = shut n t h
says_done n t NoKind h = tt

more_deep : (n : ℕ) → n + 1 ≡ suc n
more_deep n = omega arith

says_by : (p : Phase) (n : ℕ) (t : List Kind) (k : Kind) → SaysBy p n t → Says (next_by p n k) (t ++ k ∷ [])
says_by Wanted n t Name h = (t, Name, h, name, refl)
says_by Wanted n t License h = (t, License, h, license, refl)
says_by Wanted n t Operator h = tt
says_by Wanted n t With h = tt
says_by Wanted n t OpenMark h = subst (λ z. Open z (t ++ OpenMark ∷ [])) (sym (more_deep n)) (opens n t h)
says_by Wanted n t CloseMark h = tt
says_by Wanted n t NoKind h = tt
says_by Simple n t Name h = tt
says_by Simple n t License h = tt
says_by Simple n t Operator h = goes_on n t (simple_ends n t h)
says_by Simple n t With (u, k, open', h, e) = (u, k, open', h, ap (λ z. z ++ With ∷ []) e ∙ append_assoc u (k ∷ []) (With ∷ []))
says_by Simple n t OpenMark h = tt
says_by Simple n t CloseMark h = shut n t (simple_ends n t h)
says_by Simple n t NoKind h = tt
says_by Excepting n t Name (u, k, open', h, e) =
    subst (Ended n) (sym (ap (λ z. z ++ Name ∷ []) e ∙ append_assoc u (k ∷ With ∷ []) (Name ∷ []))) (fills n u (k ∷ With ∷ Name ∷ []) open' (excepted k h))
says_by Excepting n t License h = tt
says_by Excepting n t Operator h = tt
says_by Excepting n t With h = tt
says_by Excepting n t OpenMark h = tt
says_by Excepting n t CloseMark h = tt
says_by Excepting n t NoKind h = tt
says_by Done n t k h = says_done n t k h
says_by Broken n t k h = tt

says_all : (front ks : List Kind) (p : Progress) → Says p front → Says (fold next p ks) (front ++ ks)
says_all front [] p h = subst (Says p) (sym (append-nil front)) h
says_all front (k ∷ ks) p h =
    subst (Says (fold next (next p k) ks)) (append_assoc front (k ∷ []) ks) (says_all (front ++ k ∷ []) ks (next p k) (says_by p.phase p.depth front k h))

ended_whole : (t : List Kind) → Ended 0 t → IsExpression t
ended_whole t (whole v h) = h

whole_by : (p : Phase) (t : List Kind) → SaysBy p 0 t → is_ended p ≡ true → IsExpression t
whole_by Wanted t h e = cc e
whole_by Simple t h e = ended_whole t (simple_ends 0 t h)
whole_by Excepting t h e = cc e
whole_by Done t h e = ended_whole t h
whole_by Broken t h e = cc e

read : (p : Progress) (t : List Kind) → Says p t → is_whole p ≡ true → IsExpression t
read p t h e =
    let parts = both (is_ended p.phase) (p.depth == 0) e in
    whole_by p.phase t (subst (λ n. SaysBy p.phase n t) (eqb-true p.depth 0 parts.1) h) parts.0

-- ---- what an expression leads to

abbrev IsAt : ℕ → Progress → Type 0
IsAt n p = (is_ended p.phase ≡ true) × (p.depth ≡ n)

by_operator : (n : ℕ) (p : Progress) → IsAt n p → next p Operator ≡ at Wanted n
by_operator n p h = go p.phase p.depth h.0 h.1
  where
    go : (f : Phase) (d : ℕ) → is_ended f ≡ true → d ≡ n → next_by f d Operator ≡ at Wanted n
    go Wanted d e k = cc e
    go Simple d e k = ap (at Wanted) k
    go Excepting d e k = cc e
    go Done d e k = ap (at Wanted) k
    go Broken d e k = cc e

closed_at : (n : ℕ) → closed (suc n) ≡ at Done n
closed_at n = go (suc n == 0) refl
  where
    go : (z : Bool) → (suc n == 0) ≡ z → closed (suc n) ≡ at Done n
    go true e = let clash : suc n ≡ 0 = eqb-true (suc n) 0 e in cc clash
    go false e = let less : suc n - 1 ≡ n = omega arith in rw e (ap (at Done) less)

by_close : (n : ℕ) (p : Progress) → IsAt (suc n) p → next p CloseMark ≡ at Done n
by_close n p h = go p.phase p.depth h.0 h.1
  where
    go : (f : Phase) (d : ℕ) → is_ended f ≡ true → d ≡ suc n → next_by f d CloseMark ≡ at Done n
    go Wanted d e k = cc e
    go Simple d e k = ap closed k ∙ closed_at n
    go Excepting d e k = cc e
    go Done d e k = ap closed k ∙ closed_at n
    go Broken d e k = cc e

over_simple : (n : ℕ) (k : Kind) → IsSimple k → next (at Wanted n) k ≡ at Simple n
over_simple n _ name = refl
over_simple n _ license = refl

leads : (e : List Kind) → IsExpression e → (n : ℕ) → IsAt n (fold next (at Wanted n) e)
leads _ (simple k h) n = subst (IsAt n) (sym (over_simple n k h)) (refl, refl)
leads _ (excepted k h) n = subst (λ p. IsAt n (next (next p With) Name)) (sym (over_simple n k h)) (refl, refl)
leads _ (wrapped e h) n =
    let within : IsAt (suc n) (fold next (at Wanted (n + 1)) e) = subst (λ d. IsAt (suc n) (fold next (at Wanted d) e)) (sym (more_deep n)) (leads e h (suc n)) in
    let out : fold next (at Wanted (n + 1)) (e ++ CloseMark ∷ []) ≡ at Done n = fold-append next (at Wanted (n + 1)) e (CloseMark ∷ []) ∙ by_close n (fold next (at Wanted (n + 1)) e) within in
    subst (IsAt n) (sym out) (refl, refl)
leads _ (joined e f h k) n =
    let out : fold next (at Wanted n) (e ++ Operator ∷ f) ≡ fold next (at Wanted n) f =
    fold-append next (at Wanted n) e (Operator ∷ f) ∙ ap (λ p. fold next p f) (by_operator n (fold next (at Wanted n) e) (leads e h n)) in
    subst (IsAt n) (sym out) (leads f k n)

pub spdx_expression : Tells is_spdx_expression IsSpdxExpression
unfolding is_spdx_expression
spdx_expression t = (
  (λ e. read (fold next begun (kinds t)) (kinds t) (says_all [] (kinds t) begun (first [] (λ x h. h))) e),
  (λ h. let k = leads (kinds t) h 0 in rw (k.0, eq-eqb (fold next begun (kinds t)).depth 0 k.1) refl),
)
