-- The first descriptor with each digest: all agree where each agrees with it.
use Rattle.std.proofs.Common.{◌≡◌, inl, inr, ℕ, ◌+◌, List, [], ◌∷◌, Bool, true, false, bytes_eq, Option, Some, None, IfSome, map, refl, sym, ap, ◌∙◌, subst, true≢false}
use Rattle.std.specs.Prelude.{◌↔◌, ◌⊎◌, ⊤, if◌then◌else◌}
use Rattle.std.specs.Bool.{Decides}
use Rattle.std.specs.List.{Contains}
use Rattle.std.specs.Option.{option_or}
use Rattle.std.proofs.lemmas.Bool.Decides.{Decides-eqb}
use Rattle.std.proofs.lemmas.List.Elements.{Contains-append_right, Contains-append_cases}
use Rattle.std.proofs.lemmas.Slice.Eq.{bytes_eq-Decides}
use Rattle.oci_schema.proofs.EachPart.{nothing_in, one_in}
use Rattle.oci_rules.proofs.Found.{first_in, not_nil, no_more, none_first, none_later}
use Rattle.oci_agreement.specs.Descriptors.{Mention, Same, AllAgree, first_said, with_one, is_same, Conflict, conflict_at, conflicts}
use Rattle.oci_agreement.specs.declared.descriptors.DescriptorAgreement.{DescriptorAgreement}
use Rattle.oci_agreement.specs.declared.descriptors.DescriptorAgreement.TheVariants.{Sizes, Types}

same_tells : (a : DescriptorAgreement) (m n : Mention) → Decides (is_same a m n) (Same a m n)
same_tells Sizes m n = Decides-eqb m.size n.size
same_tells Types m n = bytes_eq-Decides m.media_type n.media_type

one_law : {A : Type 0} (b : Bool) (P : Type 0) (x : A) → Decides b P → ((if b then [] else x ∷ []) ≡ []) ↔ P
one_law true P x is = ((λ e. is.0 refl), (λ p. refl))
one_law false P x is = ((λ e. not_nil x [] e), (λ p. absurd (true≢false (sym (is.1 p)))))

at_law : (a : DescriptorAgreement) (place : ℕ) (o : Option Mention) (m : Mention) → (conflict_at a place o m ≡ []) ↔ IfSome o (λ f. Same a f m)
at_law a place None m = ((λ e. tt), (λ h. refl))
at_law a place (Some f) m = one_law (is_same a f m) (Same a f m) (record { place = place; first = f }) (same_tells a f m)

-- each of these agrees with the first of all that has its digest
abbrev EachFirst : DescriptorAgreement → List Mention → List Mention → Type 0
EachFirst a all [] = ⊤
EachFirst a all (m ∷ ms) = IfSome (first_said m.digest all) (λ f. Same a f m) × EachFirst a all ms

from_law : (a : DescriptorAgreement) (all : List Mention) (place : ℕ) (ms : List Mention) → (conflicts a all place ms ≡ []) ↔ EachFirst a all ms
from_law a all place [] = ((λ e. tt), (λ h. refl))
from_law a all place (m ∷ ms) =
    let one = at_law a place (first_said m.digest all) m in
    let rest = from_law a all (place + 1) ms in
    let xs : List Conflict = conflict_at a place (first_said m.digest all) m in
    let ys : List Conflict = conflicts a all (place + 1) ms in
    ((λ e. (one.0 (none_first xs ys e), rest.0 (none_later xs ys e))), (λ h. no_more xs ys (one.1 h.0) (rest.1 h.1)))

each_has : (a : DescriptorAgreement) (all ms : List Mention) → EachFirst a all ms → (m : Mention) → Contains ms m → IfSome (first_said m.digest all) (λ f. Same a f m)
each_has a all [] h m held = nothing_in m held
each_has a all (x ∷ xs) h m held = go (λ k. each_has a all xs h.1 m k) (Contains-append_cases (x ∷ []) xs m held)
  where
    go : (Contains xs m → IfSome (first_said m.digest all) (λ f. Same a f m)) → Contains (x ∷ []) m ⊎ Contains xs m → IfSome (first_said m.digest all) (λ f. Same a f m)
    go rest (inl k) = subst (λ (z : Mention). IfSome (first_said z.digest all) (λ f. Same a f z)) (one_in x m k) h.0
    go rest (inr k) = rest k

said_of : (all : List Mention) (m : Mention) → Contains all m → (f : Mention) × (first_said m.digest all ≡ Some f)
said_of [] m held = nothing_in m held
said_of (x ∷ xs) m held = go (λ k. said_of xs m k) (bytes_eq m.digest x.digest) refl
  where
    later : (Contains xs m → (f : Mention) × (first_said m.digest xs ≡ Some f)) → Contains (x ∷ []) m ⊎ Contains xs m → bytes_eq m.digest x.digest ≡ false
        → (f : Mention) × (first_said m.digest xs ≡ Some f)
    later rest (inl k) e = absurd (true≢false (sym ((bytes_eq-Decides m.digest x.digest).1 (ap (λ (z : Mention). z.digest) (sym (one_in x m k)))) ∙ e))
    later rest (inr k) e = rest k

    go : (Contains xs m → (f : Mention) × (first_said m.digest xs ≡ Some f)) → (b : Bool) → bytes_eq m.digest x.digest ≡ b
        → (f : Mention) × ((if bytes_eq m.digest x.digest then Some x else first_said m.digest xs) ≡ Some f)
    go rest true e = (x, ap (λ b. if b then Some x else first_said m.digest xs) e)
    go rest false e =
        let (f, is) = later rest (Contains-append_cases (x ∷ []) xs m held) e in
        (f, ap (λ b. if b then Some x else first_said m.digest xs) e ∙ is)

said_is : (digest : List ℕ) (all : List Mention) (f : Mention) → first_said digest all ≡ Some f → Contains all f × (digest ≡ f.digest)
said_is digest [] f e = absurd cc
said_is digest (x ∷ xs) f e = go (λ h. said_is digest xs f h) (bytes_eq digest x.digest) refl e
  where
    go : (first_said digest xs ≡ Some f → Contains xs f × (digest ≡ f.digest)) → (b : Bool) → bytes_eq digest x.digest ≡ b → (if b then Some x else first_said digest xs) ≡ Some f
        → Contains (x ∷ xs) f × (digest ≡ f.digest)
    go rest true e h =
        let same : x ≡ f = cc in
        (subst (λ (z : Mention). Contains (x ∷ xs) z) same (first_in x xs), (bytes_eq-Decides digest x.digest).0 e ∙ ap (λ (z : Mention). z.digest) same)
    go rest false e h = let is = rest h in (Contains-append_right (x ∷ []) xs f is.0, is.1)

joined : (a : DescriptorAgreement) (f m n : Mention) → Same a f m → Same a f n → Same a m n
joined Sizes f m n p q = sym p ∙ q
joined Types f m n p q = sym p ∙ q

there : (a : DescriptorAgreement) (all : List Mention) → EachFirst a all all → AllAgree a all
there a all h m n hm hn same =
    let (f, e) = said_of all m hm in
    let p : Same a f m = subst (λ (o : Option Mention). IfSome o (λ g. Same a g m)) e (each_has a all all h m hm) in
    let q : Same a f n = subst (λ (o : Option Mention). IfSome o (λ g. Same a g n)) (ap (λ d. first_said d all) (sym same) ∙ e) (each_has a all all h n hn) in
    joined a f m n p q

back : (a : DescriptorAgreement) (all : List Mention) → AllAgree a all → (ms : List Mention) → ((m : Mention) → Contains ms m → Contains all m) → EachFirst a all ms
back a all h [] within = tt
back a all h (m ∷ ms) within = (go (first_said m.digest all) refl, back a all h ms (λ n k. within n (Contains-append_right (m ∷ []) ms n k)))
  where
    go : (o : Option Mention) → first_said m.digest all ≡ o → IfSome o (λ f. Same a f m)
    go None e = tt
    go (Some f) e = let is = said_is m.digest all f e in h f m is.0 (within m (first_in m ms)) (sym is.1)

-- none is listed exactly where all agree
conflicts_law : (a : DescriptorAgreement) (all : List Mention) → (conflicts a all 0 all ≡ []) ↔ AllAgree a all
conflicts_law a all =
    let law = from_law a all 0 all in
    ((λ e. there a all (law.0 e)), (λ h. law.1 (back a all h all (λ m k. k))))

no_conflict : {A B : Type 0} (f : A → B) (xs : List A) → map f xs ≡ [] → xs ≡ []
no_conflict f [] e = refl
no_conflict f (x ∷ xs) e = not_nil (f x) (map f xs) e

-- the same of what is listed
pub listed_law : {A : Type 0} (f : A → Conflict) (xs : List A) (a : DescriptorAgreement) (all : List Mention) → map f xs ≡ conflicts a all 0 all → (xs ≡ []) ↔ AllAgree a all
listed_law f xs a all is =
    let law = conflicts_law a all in
    ((λ e. law.0 (sym is ∙ ap (map f) e)), (λ h. no_conflict f xs (is ∙ law.1 h)))

-- ---- one more

pub or_step : (m : Mention) (digest : List ℕ) (o : Option Mention) (ms : List Mention) → option_or (with_one m digest o) (first_said digest ms) ≡ option_or o (first_said digest (m ∷ ms))
or_step m digest (Some f) ms = refl
or_step m digest None ms = go (bytes_eq digest m.digest)
  where
    go : (b : Bool) → option_or (if b then Some m else None) (first_said digest ms) ≡ (if b then Some m else first_said digest ms)
    go true = refl
    go false = refl
