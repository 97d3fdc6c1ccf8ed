-- What becomes of lists of claims as they grow, and what a walk has at its end.
use Rattle.std.proofs.Common.{◌≡◌, ℕ, ◌≤◌, ◌<◌, List, [], ◌∷◌, ◌++◌, length, slice_get, get_or, Option, Some, None, ◌⊎◌, inl, inr, refl, sym, ap, subst, ◌∙◌, append_assoc, length-append, arith, lit<}
use Rattle.std.proofs.lemmas.List.{append-nil, get_or_append_left}
use Rattle.std.proofs.lemmas.Option.{slice_get-get_or, slice_get_within, get_or_from_slice_get}
use Rattle.std.proofs.lemmas.List.Elements.{Contains-append_left, Contains-push, Contains-push_cases}
use Rattle.std.proofs.Math.Seq.{get_or-append_seam}
use Rattle.std.specs.List.{Contains}
use Rattle.oci_layout.specs.Walk.{Extends, IsWithin, IsOnly, Show, Reaches, IsLookedAt, IsUnderway, IsWalk}
use Rattle.oci_layout.specs.Walk.Reaches.{first, further}
use Rattle.oci_layout.specs.declared.claim.Claim.{Claim}
use Rattle.oci_layout.specs.declared.claim.Fault.{Fault}

-- where a claim is fine, no look at it finds more than its document claims
abbrev pub ShowsNoMore : Show → (Claim → Option Fault → Type 0) → Type 0
ShowsNoMore shows Fine = (c : Claim) (f g : Option Fault) (xs ys : List Claim) → Fine c f → shows c f xs → shows c g ys → IsWithin ys xs

abbrev pub AreFineBy : (Claim → Option Fault → Type 0) → List Claim → List (Option Fault) → Type 0
AreFineBy Fine all faults = (i : ℕ) (c : Claim) (f : Option Fault) → slice_get all i ≡ Some c → slice_get faults i ≡ Some f → Fine c f

pub extends_same : {X : Type 0} (xs : List X) → Extends xs xs
extends_same xs = ([], sym (append-nil xs))

pub extends_more : {X : Type 0} (xs ys zs : List X) → Extends ys xs → Extends zs ys → Extends zs xs
extends_more xs ys zs (a, e) (b, f) = (a ++ b, f ∙ ap (λ l. l ++ b) e ∙ append_assoc xs a b)

pub within_extended : {X : Type 0} (longer xs : List X) → Extends longer xs → IsWithin xs longer
within_extended longer xs (rest, e) x h = subst (λ l. Contains l x) (sym e) (Contains-append_left xs rest x h)

pub none_within : {X : Type 0} (xs : List X) → IsWithin [] xs
none_within xs x (k, h, e) = absurd (omega arith)

-- nothing is left
pub drained : {X : Type 0} (taken rest all : List X) → all ≡ taken ++ rest → length rest ≡ 0 → all ≡ taken
drained taken [] all e h = e ∙ append-nil taken
drained taken (x ∷ rest) all e h = absurd (omega arith)

pub at_place : {X : Type 0} (xs : List X) (i : ℕ) (x : X) → slice_get xs i ≡ Some x → Contains xs x
at_place xs i x e = (i, slice_get_within xs i x e, get_or_from_slice_get xs i x x e)

some : {X : Type 0} {x y : X} → Some x ≡ Some y → x ≡ y
some e = cc

-- the place is one of the shorter list
pub at_earlier : {X : Type 0} (xs ys : List X) (i : ℕ) (x : X) → i < length xs → slice_get (xs ++ ys) i ≡ Some x → slice_get xs i ≡ Some x
at_earlier xs ys i x h e =
    slice_get-get_or xs i x h ∙ ap Some (sym (get_or_append_left xs ys x i h) ∙ get_or_from_slice_get (xs ++ ys) i x x e)

pub at_later : {X : Type 0} (xs ys : List X) (i : ℕ) (x : X) → slice_get xs i ≡ Some x → slice_get (xs ++ ys) i ≡ Some x
at_later xs ys i x e =
    let h = slice_get_within xs i x e in
    slice_get-get_or (xs ++ ys) i x (omega (arith, length-append xs ys)) ∙ ap Some (get_or_append_left xs ys x i h ∙ get_or_from_slice_get xs i x x e)

pub at_seam : {X : Type 0} (xs : List X) (y x : X) → slice_get (xs ++ y ∷ []) (length xs) ≡ Some x → y ≡ x
at_seam xs y x e = sym (get_or-append_seam xs y [] x) ∙ get_or_from_slice_get (xs ++ y ∷ []) (length xs) x x e

pub only_element : {X : Type 0} (k x : X) → Contains (k ∷ []) x → k ≡ x
only_element k x (i, h, e) = let first : i ≡ 0 = omega arith in subst (λ n. get_or (k ∷ []) n x ≡ x) first e

pub pushed : {X : Type 0} (xs : List X) (k : X) → Extends (xs ++ k ∷ []) xs
pushed xs k = (k ∷ [], refl)

pub only_pushed : {X : Type 0} (xs : List X) (k : X) → IsOnly (xs ++ k ∷ []) xs (k ∷ [])
only_pushed xs k x h = elim (Contains-push_cases xs k x h) [
  | inl i ↦ inl i
  | inr i ↦ inr (0, lit< tt, i)
]

pub only_same : {X : Type 0} (xs ys : List X) → IsOnly xs xs ys
only_same xs ys x h = inl h

-- one more is added
pub added_one : {X : Type 0} (now next taken : List X) (k : X) → Extends next now → Contains next k → IsWithin taken now → IsWithin (taken ++ k ∷ []) next
added_one now next taken k longer there within x h = elim (Contains-push_cases taken k x h) [
  | inl i ↦ within_extended next now longer x (within x i)
  | inr i ↦ subst (Contains next) i there
]

pub only_one : {X : Type 0} (old now next taken : List X) (k : X) → IsOnly next now (k ∷ []) → IsOnly now old taken → IsOnly next old (taken ++ k ∷ [])
only_one old now next taken k one only x h = elim (one x h) [
  | inl i ↦ elim (only x i) [ inl j ↦ inl j | inr j ↦ inr (Contains-append_left taken (k ∷ []) x j) ]
  | inr i ↦ inr (subst (Contains (taken ++ k ∷ [])) (only_element k x i) (Contains-push taken k))
]

-- a claim that was looked at stays so as more is found
stays : (shows : Show) (all more : List Claim) (c : Claim) (f : Option Fault) → Extends more all → IsLookedAt shows all c f → IsLookedAt shows more c f
stays shows all more c f longer l = record {
  claims = l.claims;
  shown = l.shown;
  within = λ x h. within_extended more all longer x (l.within x h);
}

-- before anything is looked at
pub underway_at_first : (shows : Show) (first all : List Claim) → IsWithin first all → IsOnly all [] first → IsUnderway shows first all []
underway_at_first shows start all begun only = record {
  begun = begun;
  reached = λ c h. elim (only c h) [ inl i ↦ absurd (empty c i) | inr i ↦ first i ];
  within = omega arith;
  looked = λ i c f e g. absurd (let h = slice_get_within {A = Option Fault} [] i f g in omega arith);
}
  where
    empty : (c : Claim) → Contains [] c → ⊥
    empty c (k, h, e) = omega arith

pub only_first : {X : Type 0} (all old start : List X) → old ≡ [] → IsOnly all old start → IsWithin all start
only_first {X} all old start none only x h = elim (only x h) [
  | inl i ↦ absurd (none_in (subst (λ l. Contains l x) none i))
  | inr i ↦ i
]
  where
    none_in : Contains [] x → ⊥
    none_in (k, less, e) = omega arith

-- the same, where the claims are the first ones
pub begun : (shows : Show) (start all : List Claim) (faults : List (Option Fault)) → IsWithin start all → IsWithin all start → faults ≡ [] → IsUnderway shows start all faults
begun shows start all faults within only none =
    subst (IsUnderway shows start all) (sym none) (underway_at_first shows start all within (λ c h. inr (only c h)))

-- one more claim is looked at
pub one_more : (shows : Show) (first all next : List Claim) (faults : List (Option Fault)) (c : Claim) (f : Option Fault) (claims : List Claim)
    → slice_get all (length faults) ≡ Some c → shows c f claims
    → Extends next all → IsWithin claims next → IsOnly next all claims
    → IsUnderway shows first all faults → IsUnderway shows first next (faults ++ f ∷ [])
one_more shows start all next faults c f claims here shown longer within only u = record {
  begun = λ x h. within_extended next all longer x (u.begun x h);
  reached = λ x h. elim (only x h) [ inl i ↦ u.reached x i | inr i ↦ further f claims (u.reached c (at_place all (length faults) c here)) shown i ];
  within = let h = slice_get_within all (length faults) c here in longer_length longer h;
  looked = looked;
}
  where
    longer_length : Extends next all → length faults < length all → length (faults ++ f ∷ []) ≤ length next
    longer_length (rest, e) h = omega (arith, length-append faults (f ∷ []), ap length e, length-append all rest)

    -- the place is an earlier one, or the one that was looked at last
    place : (i : ℕ) → i < length (faults ++ f ∷ []) → (i < length faults) ⊎ (i ≡ length faults)
    place i h = let e = length-append faults (f ∷ []) in grind arith

    before : (i : ℕ) (d : Claim) → Extends next all → i < length all → slice_get next i ≡ Some d → slice_get all i ≡ Some d
    before i d (rest, e) h found = at_earlier all rest i d h (subst (λ l. slice_get l i ≡ Some d) e found)

    last : (i : ℕ) (d : Claim) (g : Option Fault) → slice_get next i ≡ Some d → slice_get (faults ++ f ∷ []) i ≡ Some g → i ≡ length faults → IsLookedAt shows next d g
    last i d g found told h =
        let there : slice_get all (length faults) ≡ Some d = subst (λ n. slice_get all n ≡ Some d) h (before i d longer (subst (λ n. n < length all) (sym h) (slice_get_within all (length faults) c here)) found) in
        let same_claim : c ≡ d = some (sym here ∙ there) in
        let same_fault : f ≡ g = at_seam faults f g (subst (λ n. slice_get (faults ++ f ∷ []) n ≡ Some g) h told) in
        record {
          claims = claims;
          shown = subst (λ x. shows d x claims) same_fault (subst (λ x. shows x f claims) same_claim shown);
          within = within;
        }

    looked : (i : ℕ) (d : Claim) (g : Option Fault) → slice_get next i ≡ Some d → slice_get (faults ++ f ∷ []) i ≡ Some g → IsLookedAt shows next d g
    looked i d g found told = elim (place i (slice_get_within (faults ++ f ∷ []) i g told)) [
      | inl h ↦ stays shows all next d g longer (u.looked i d g (before i d longer (let w = u.within in omega arith) found) (at_earlier faults (f ∷ []) i g h told))
      | inr h ↦ last i d g found told h
    ]

-- at the end
pub all_looked_at : (shows : Show) (first all : List Claim) (faults : List (Option Fault)) → length all ≤ length faults
    → IsUnderway shows first all faults → IsWalk shows first all faults
all_looked_at shows start all faults h u = record {
  begun = u.begun;
  reached = u.reached;
  each = let w = u.within in omega arith;
  looked = u.looked;
}

-- a walk in which each place is fine has all that is reached
pub has_all : (shows : Show) (Fine : Claim → Option Fault → Type 0) (start all : List Claim) (faults : List (Option Fault)) → ShowsNoMore shows Fine
    → IsWalk shows start all faults → AreFineBy Fine all faults → (c : Claim) → Reaches shows start c → Contains all c
has_all shows Fine start all faults once w fine c (first h) = w.begun c h
has_all shows Fine start all faults once w fine d (further {c} f claims r shown h) =
    let (k, below, at) = has_all shows Fine start all faults once w fine c r in
    let here : slice_get all k ≡ Some c = slice_get-get_or all k c below ∙ ap Some at in
    let each = w.each in
    let told : slice_get faults k ≡ Some (get_or faults k None) = slice_get-get_or faults k None (omega arith) in
    let l = w.looked k c (get_or faults k None) here told in
    l.within d (once c (get_or faults k None) f l.claims claims (fine k c (get_or faults k None) here told) l.shown shown d h)
