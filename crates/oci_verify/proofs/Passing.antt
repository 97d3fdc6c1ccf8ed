-- Which documents of a layout pass `check`, by what is found of each.
use Rattle.std.proofs.Common.{◌≡◌, ℕ, ◌+◌, ◌<◌, ◌≤◌, Bool, true, false, Result, Ok, Err, IfOk, List, [], length, ◌==◌, get_or, slice_get, Option, None, Some, inl, inr, refl, sym, ap, subst, ◌∙◌, true≢false, below_more, arith}
use Rattle.std.specs.Prelude.{◌↔◌, codes, IsTrue}
use Rattle.std.proofs.lemmas.Option.{slice_get-get_or, slice_get_within}
use Rattle.oci_content.specs.declared.verdict.Verdict.TheVariants as verdict
use Rattle.oci_schemas.specs.declared.kind.Kind.{Kind as DocumentKind}
use Rattle.oci_schemas.specs.declared.kind.Kind.TheVariants as documents
use Rattle.oci_layout.specs.Documents.{IsRead}
use Rattle.oci_layout.specs.Looks.{Contents, IsShown, IsShownIn, Shows}
use Rattle.oci_layout.specs.Sound.{AreFine, IsSoundOrMissing}
use Rattle.oci_layout.specs.Walk.{IsWalk, Reaches}
use Rattle.oci_layout.specs.declared.claim.Claim.{Claim}
use Rattle.oci_layout.specs.declared.claim.Fault.{Fault}
use Rattle.oci_layout.specs.declared.kind.Kind.TheVariants.{Index}
use Rattle.oci_layout.proofs.Details.{empty_list}
use Rattle.oci_layout.proofs.Once.{shown_once}
use Rattle.oci_layout.proofs.Sound.{contained, sound_where_reached, steady_shows}
use Rattle.oci_layout.proofs.Walks.{at_place}
use Rattle.oci_findings.specs.Checks.{HasKeysOnce, IsRight, IsRightValue, IsWrong}
use Rattle.oci_findings.specs.declared.asked.Check.{Check}
use Rattle.oci_verify.specs.Images.{IsFound, IsSmallKept, OverContents}
use Rattle.oci_verify.specs.Layouts.{AllPass}
use Rattle.oci_verify.specs.Passing.{Books, ClaimPasses, FoundPassing, Passes, PlacePasses, IsFineAt, document_kind}
use Rattle.oci_verify.proofs.Agreeing.{over_both, over_each, over_map}
use Rattle.oci_verify.proofs.Reaching.{reached_from, reached_record}

abbrev File : Type 0
File = List ℕ → Option (List ℕ)

some : {X : Type 0} {x y : X} → Some x ≡ Some y → x ≡ y
some e = cc

-- ---- one document

right_passes : (books : Books) (asked : Check) (kind : DocumentKind) (name bytes : List ℕ) → IsRight books (record asked { kind = Some kind }) name bytes → Passes books asked kind bytes
right_passes books asked kind name bytes (inl (k, d, is, reads, right, keys)) =
    let same : k ≡ kind = sym (some is) in
    (d, reads, subst (λ x. IsRightValue books asked x d) same right, subst (λ x. HasKeysOnce asked x bytes) same keys)
right_passes books asked kind name bytes (inr (skip, (d, reads, none))) = cc none

passes_right : (books : Books) (asked : Check) (kind : DocumentKind) (name bytes : List ℕ) → Passes books asked kind bytes → IsRight books (record asked { kind = Some kind }) name bytes
passes_right books asked kind name bytes (d, reads, right, keys) = inl (kind, d, refl, reads, right, keys)

-- nothing is in the list
pub empty_told : {X : Type 0} (xs : List X) (n : ℕ) (none : Bool) → n ≡ length xs → none ≡ (n == 0) → IsTrue none ↔ (xs ≡ [])
empty_told xs n none counted is = (λ e. empty_list xs n counted (sym is ∙ e), λ e. is ∙ ap (λ k. k == 0) (counted ∙ ap length e))

-- what is said of a document of the kind says whether it passes
pub passes_told : {X : Type 0} (books : Books) (asked : Check) (kind : DocumentKind) (name bytes : List ℕ) (errors : List X) (none : Bool) → (IsTrue none ↔ (errors ≡ []))
    → (errors ≡ [] → IsRight books (record asked { kind = Some kind }) name bytes) → ((errors ≡ [] → ⊥) → IsWrong books (record asked { kind = Some kind }) name bytes)
    → IsTrue none ↔ Passes books asked kind bytes
passes_told books asked kind name bytes errors true empty right wrong = (λ is. right_passes books asked kind name bytes (right (empty.0 is)), λ p. refl)
passes_told books asked kind name bytes errors false empty right wrong = (
  λ is. absurd (true≢false (sym is)),
  λ p. absurd (wrong (λ e. true≢false (sym (empty.1 e))) (passes_right books asked kind name bytes p)),
)

-- ---- what the index reaches

-- at a claim whose content is there no fault was found
no_fault : (limit : ℕ) (contents : File) (c : Claim) (f : Option Fault) (claims : List Claim) (bytes : List ℕ) → IsSoundOrMissing limit contents c → IsShownIn limit contents c f claims
    → contents c.digest ≡ Some bytes → f ≡ None
no_fault limit contents c f claims bytes (inl s) shown there =
    (shown_once limit (contents c.digest) c f None claims s.claims shown
    (subst (λ o. IsShown limit o c None s.claims) (sym s.there) (inl (s.small, (verdict.Same, (s.size, s.digest), s.document))))).0
no_fault limit contents c f claims bytes (inr (none, may)) shown there = let e = sym none ∙ there in cc e

claim_passes : (books : Books) (asked : Check) (limit : ℕ) (contents : File) (first claims : List Claim) (faults : List (Option Fault)) → IsWalk (Shows false true limit (Some contents)) first claims faults
    → AreFine claims faults → ((place : ℕ) → PlacePasses books asked limit contents claims faults place) → (c : Claim) → Reaches (IsShownIn limit contents) first c
    → ClaimPasses books asked limit contents c
claim_passes books asked limit contents first claims faults walk fine found c r kind bytes is kept =
    let (k, below, at) = contained limit contents first claims faults walk fine c r in
    let here : slice_get claims k ≡ Some c = slice_get-get_or claims k c below ∙ ap Some at in
    let each = walk.each in
    let told : slice_get faults k ≡ Some (get_or faults k None) = slice_get-get_or faults k None (omega arith) in
    let l = walk.looked k c (get_or faults k None) here told in
    let sound = sound_where_reached limit true contents first claims faults walk fine c r in
    let none = no_fault limit contents c (get_or faults k None) l.claims bytes sound (steady_shows limit contents c (get_or faults k None) l.claims l.shown) kept.1.0 in
    found k c (here, told ∙ ap Some none) kind bytes is kept

-- where what was found passes, all that is reached does
pub all_pass : (books : Books) (asked : Check) (limit : ℕ) (tops contents : File) (index : List ℕ) (before : Option Fault) (first claims : List Claim) (faults : List (Option Fault))
    → tops (codes "index.json") ≡ Some index → before ≡ None → IsRead Index index None first → IsWalk (Shows false true limit (Some contents)) first claims faults → AreFine claims faults
    → FoundPassing books asked limit contents index before claims faults → AllPass books asked limit tops contents
all_pass books asked limit tops contents index before first claims faults there none read walk fine found = record {
  index = λ bytes here. subst (Passes books asked documents.Index) (some (sym there ∙ here)) (found.top none);
  reached = λ c reached. claim_passes books asked limit contents first claims faults walk fine found.claimed c (reached_from limit tops contents index first c there read reached);
}

-- and the other way round
pub found_passing : (books : Books) (asked : Check) (limit : ℕ) (tops contents : File) (index : List ℕ) (before : Option Fault) (first claims : List Claim) (faults : List (Option Fault))
    → tops (codes "index.json") ≡ Some index → IsRead Index index None first → IsWalk (Shows false true limit (Some contents)) first claims faults
    → AllPass books asked limit tops contents → FoundPassing books asked limit contents index before claims faults
found_passing books asked limit tops contents index before first claims faults there read walk all = record {
  top = λ none. all.index index there;
  claimed = λ k c here. all.reached c (reached_record limit tops contents index first claims faults there read walk c (at_place claims k c here.0));
}

-- ---- one claim

pub no_document : (books : Books) (asked : Check) (limit : ℕ) (contents : File) (c : Claim) → document_kind c.kind ≡ None → ClaimPasses books asked limit contents c
no_document books asked limit contents c none kind bytes is kept = let e = sym none ∙ is in cc e

pub no_content : (books : Books) (asked : Check) (limit : ℕ) (contents : File) (c : Claim) → IsFound (IsSmallKept limit contents c.digest c.size) None → ClaimPasses books asked limit contents c
no_content books asked limit contents c none kind bytes is kept = absurd (none bytes kept)

-- its content is the only one, and its kind
pub content_passes : (books : Books) (asked : Check) (limit : ℕ) (contents : File) (c : Claim) (kind : DocumentKind) (bytes : List ℕ) → document_kind c.kind ≡ Some kind
    → IsSmallKept limit contents c.digest c.size bytes → Passes books asked kind bytes ↔ ClaimPasses books asked limit contents c
content_passes books asked limit contents c kind bytes is kept = (there, λ h. h kind bytes is kept)
  where
    there : Passes books asked kind bytes → ClaimPasses books asked limit contents c
    there p other others also held =
        let same : kind ≡ other = some (sym is ∙ also) in
        let alike : bytes ≡ others = some (sym kept.1.0 ∙ held.1.0) in
        subst (λ b. Passes books asked other b) alike (subst (λ k. Passes books asked k bytes) same p)

-- what is answered whatever the contents are
pub anywhere : {E : Type 0} (steady : Bool) (contents : Contents) (P : Type 0) (r : Result Bool E) → IfOk r (λ b. IsTrue b ↔ P)
    → IfOk r (λ b. OverContents steady contents (λ c. IsTrue b ↔ P))
anywhere steady contents P (Ok b) h = over_each steady contents (λ c. IsTrue b ↔ P) (λ c. h)
anywhere steady contents P (Err e) h = tt

-- ---- one place after the other

pub no_claim : (books : Books) (asked : Check) (limit : ℕ) (contents : File) (claims : List Claim) (faults : List (Option Fault)) (place : ℕ) → IsFound (IsFineAt claims faults place) None
    → PlacePasses books asked limit contents claims faults place
no_claim books asked limit contents claims faults place none c here = absurd (none c here)

-- the claim at the place is the only one
pub place_passes : (books : Books) (asked : Check) (limit : ℕ) (contents : File) (claims : List Claim) (faults : List (Option Fault)) (place : ℕ) (c : Claim) → IsFineAt claims faults place c
    → ClaimPasses books asked limit contents c ↔ PlacePasses books asked limit contents claims faults place
place_passes books asked limit contents claims faults place c here =
    (λ h d also. subst (ClaimPasses books asked limit contents) (some (sym here.0 ∙ also.0)) h, λ h. h c here)

-- at the places before this one
abbrev pub PassBelow : Books → Check → ℕ → File → List Claim → List (Option Fault) → ℕ → Type 0
PassBelow books asked limit contents claims faults end = (place : ℕ) → place < end → PlacePasses books asked limit contents claims faults place

pub none_below : (books : Books) (asked : Check) (limit : ℕ) (steady : Bool) (contents : Contents) (claims : List Claim) (faults : List (Option Fault))
    → OverContents steady contents (λ k. IsTrue true ↔ PassBelow books asked limit k claims faults 0)
none_below books asked limit steady contents claims faults =
    over_each steady contents (λ k. IsTrue true ↔ PassBelow books asked limit k claims faults 0) (λ k. (λ is place below. absurd (omega arith), λ all. refl))

one_more : (books : Books) (asked : Check) (limit : ℕ) (contents : File) (claims : List Claim) (faults : List (Option Fault)) (end : ℕ) (old here new : Bool)
    → IsTrue new ↔ (IsTrue old × IsTrue here) → IsTrue old ↔ PassBelow books asked limit contents claims faults end → IsTrue here ↔ PlacePasses books asked limit contents claims faults end
    → IsTrue new ↔ PassBelow books asked limit contents claims faults (end + 1)
one_more books asked limit contents claims faults end old here new both h k = (
  λ is. below_more (PlacePasses books asked limit contents claims faults) end (h.0 (both.0 is).0) (k.0 (both.0 is).1),
  λ all. both.1 (h.1 (λ place below. all place (omega arith)), k.1 (all end (omega arith))),
)

pub more_below : (books : Books) (asked : Check) (limit : ℕ) (steady : Bool) (contents : Contents) (claims : List Claim) (faults : List (Option Fault)) (end : ℕ) (old here new : Bool)
    → IsTrue new ↔ (IsTrue old × IsTrue here) → OverContents steady contents (λ k. IsTrue old ↔ PassBelow books asked limit k claims faults end)
    → OverContents steady contents (λ k. IsTrue here ↔ PlacePasses books asked limit k claims faults end)
    → OverContents steady contents (λ k. IsTrue new ↔ PassBelow books asked limit k claims faults (end + 1))
more_below books asked limit steady contents claims faults end old here new both h k =
    over_both steady contents (λ k. IsTrue old ↔ PassBelow books asked limit k claims faults end) (λ k. IsTrue here ↔ PlacePasses books asked limit k claims faults end)
    (λ k. IsTrue new ↔ PassBelow books asked limit k claims faults (end + 1)) (λ k a b. one_more books asked limit k claims faults end old here new both a b) h k

-- behind the last claim there is none
pub all_below : (books : Books) (asked : Check) (limit : ℕ) (steady : Bool) (contents : Contents) (claims : List Claim) (faults : List (Option Fault)) (end : ℕ) (pass : Bool)
    → length claims ≤ end → OverContents steady contents (λ k. IsTrue pass ↔ PassBelow books asked limit k claims faults end)
    → OverContents steady contents (λ k. IsTrue pass ↔ ((place : ℕ) → PlacePasses books asked limit k claims faults place))
all_below books asked limit steady contents claims faults end pass long h =
    over_map steady contents (λ k. IsTrue pass ↔ PassBelow books asked limit k claims faults end) (λ k. IsTrue pass ↔ ((place : ℕ) → PlacePasses books asked limit k claims faults place))
    (λ k a. (λ is place c here. let within = slice_get_within claims place c here.0 in a.0 is place (omega arith) c here, λ all. a.1 (λ place below. all place))) h

-- ---- the whole

pub found_both : (books : Books) (asked : Check) (limit : ℕ) (steady : Bool) (contents : Contents) (index : List ℕ) (before : Option Fault) (claims : List Claim) (faults : List (Option Fault))
    (first others both : Bool) → IsTrue both ↔ (IsTrue first × IsTrue others) → IsTrue first ↔ (before ≡ None → Passes books asked documents.Index index)
    → OverContents steady contents (λ k. IsTrue others ↔ ((place : ℕ) → PlacePasses books asked limit k claims faults place))
    → OverContents steady contents (λ k. IsTrue both ↔ FoundPassing books asked limit k index before claims faults)
found_both books asked limit steady contents index before claims faults first others both and one h =
    over_map steady contents (λ k. IsTrue others ↔ ((place : ℕ) → PlacePasses books asked limit k claims faults place))
    (λ k. IsTrue both ↔ FoundPassing books asked limit k index before claims faults)
    (λ k a. (λ is. record { top = one.0 (and.0 is).0; claimed = a.0 (and.0 is).1 }, λ found. and.1 (one.1 found.top, a.1 found.claimed))) h
