-- What a walk without a finding says, and where there is one.
use Rattle.std.proofs.Common.{◌≡◌, ℕ, ◌<◌, Bool, true, false, List, [], ◌∷◌, length, IsSome, Option, None, Some, inl, inr, refl, sym, ap, subst, ◌∙◌, get_or, slice_get, true≢false, arith}
use Rattle.std.specs.Prelude.{codes, option_and_then, if◌then◌else◌}
use Rattle.std.specs.List.{All, Contains}
use Rattle.std.proofs.lemmas.Option.{slice_get-get_or}
use Rattle.serde_json.specs.Data.{Data}
use Rattle.serde_json.specs.Find.{as_str, get}
use Rattle.oci_model.specs.Shape.{Shape}
use Rattle.oci_content.specs.Content.{Tells}
use Rattle.oci_content.specs.declared.verdict.Verdict.{Verdict}
use Rattle.oci_content.specs.declared.verdict.Verdict.TheVariants as verdict
use Rattle.oci_layout.specs.Kinds.{is_same_type}
use Rattle.oci_layout.specs.Documents.{compared, IsReadBy, IsAgainst, IsTypedAgainst, type_fault}
use Rattle.oci_layout.specs.Kinds.{document_shape, own_type}
use Rattle.oci_layout.specs.Looks.{fault_of, IsJudgedBy, IsShown, IsShownIn, IsSmall, Shows}
use Rattle.oci_layout.specs.Sound.{IsFine, AreFine, IsSoundAt, IsSoundOrMissing, AreSoundFrom}
use Rattle.oci_layout.specs.Walk.{IsWalk, IsWithin, Reaches, Show}
use Rattle.oci_layout.specs.Walk.Reaches.{first, further}
use Rattle.oci_layout.specs.declared.kind.Kind.{Kind}
use Rattle.oci_layout.specs.declared.claim.Claim.{Claim}
use Rattle.oci_layout.specs.declared.claim.Fault.{Fault}
use Rattle.oci_layout.specs.declared.claim.Fault.TheVariants as fault
use Rattle.oci_layout.proofs.Once.{shown_once}
use Rattle.oci_layout.proofs.Walks.{ShowsNoMore, has_all, none_within, at_place}

some : {X : Type 0} {x y : X} → Some x ≡ Some y → x ≡ y
some e = cc

nothing_within : (xs ys : List Claim) → ys ≡ [] → IsWithin ys xs
nothing_within xs ys e = subst (λ l. IsWithin l xs) (sym e) (none_within xs)

-- ---- what is there is neither missing nor unreadable

-- what stands against a content that is not read
abbrev outer : Fault → Bool
outer fault.Missing = true
outer fault.Unreadable = true
outer _ = false

inner : (x y : Fault) → outer x ≡ true → outer y ≡ false → Some x ≡ Some y → ⊥
inner x y h k e = true≢false (sym h ∙ ap outer (some e) ∙ k)

compared_there : (x : Fault) (a b : Option (List ℕ)) → outer x ≡ true → Some x ≡ compared a b → ⊥
compared_there x None b h e = cc e
compared_there x (Some said) None h e = cc e
compared_there x (Some said) (Some own) h e = by (is_same_type own said) e
  where
    by : (b : Bool) → Some x ≡ (if b then None else Some fault.OtherType) → ⊥
    by true k = cc k
    by false k = inner x fault.OtherType h refl k

typed_there : (x : Fault) (o : Option Fault) (k : Kind) (d : Data) (p q : Option (List ℕ)) → outer x ≡ true → o ≡ compared p q → IsTypedAgainst o k d (Some x) → ⊥
typed_there x (Some f) k d p q h is e = compared_there x p q h (e ∙ is)
typed_there x None k d p q h is (inl (all, e)) = cc e
typed_there x None k d p q h is (inr (lacks, e)) = inner x fault.Embedded h refl e

against_there : (x : Fault) (k : Kind) (d : Data) → outer x ≡ true → IsAgainst k d (Some x) → ⊥
against_there x k d h (inl (m, e, a)) = inner x (fault.Ambiguous m) h refl e
against_there x k d h (inr (u, t)) = typed_there x (type_fault k d) k d (own_type k) (option_and_then as_str (get (codes "mediaType") d)) h refl t

read_there : (x : Fault) (o : Option Shape) (k : Kind) (bytes : List ℕ) (xs : List Claim) → outer x ≡ true → IsReadBy o k bytes (Some x) xs → ⊥
read_there x None k bytes xs h (p, e) = cc p
read_there x (Some s) k bytes xs h (inl (d, r, inl doc)) = against_there x k d h doc.against
read_there x (Some s) k bytes xs h (inl (d, r, inr (bad, (p, none)))) = inner x fault.NoDocument h refl p
read_there x (Some s) k bytes xs h (inr (n, (p, none))) = inner x fault.NoJson h refl p

judged_there : (x : Fault) (v : Verdict) (k : Kind) (bytes : List ℕ) (xs : List Claim) → outer x ≡ true → IsJudgedBy (fault_of v) k bytes (Some x) xs → ⊥
judged_there x verdict.Same k bytes xs h j = read_there x (document_shape k) k bytes xs h j
judged_there x (verdict.Shorter n) k bytes xs h (p, e) = inner x (fault.Shorter n) h refl p
judged_there x verdict.Longer k bytes xs h (p, e) = inner x fault.Longer h refl p
judged_there x (verdict.OtherDigest sum) k bytes xs h (p, e) = inner x (fault.OtherDigest sum) h refl p
judged_there x verdict.Unjudged k bytes xs h (p, e) = inner x fault.Unjudged h refl p

shown_there : (x : Fault) (limit : ℕ) (bytes : List ℕ) (c : Claim) (xs : List Claim) → outer x ≡ true → IsShown limit (Some bytes) c (Some x) xs → ⊥
shown_there x limit bytes c xs h (inl (small, (v, t, j))) = judged_there x v c.kind bytes xs h j
shown_there x limit bytes c xs h (inr (large, (p, e))) = inner x fault.TooLarge h refl p

-- what is shown is never that it cannot be read
pub readable : (limit : ℕ) (there : Option (List ℕ)) (c : Claim) (f : Option Fault) (xs : List Claim) → IsShown limit there c f xs → ¬ (f ≡ Some fault.Unreadable)
readable limit None c f xs (p, e) is = let same = some (sym p ∙ is) in cc same
readable limit (Some bytes) c f xs h is = shown_there fault.Unreadable limit bytes c xs refl (subst (λ g. IsShown limit (Some bytes) c g xs) is h)

-- ---- where reads may fail

-- what is fine was read
unfailing : (c : Claim) (f : Option Fault) → IsFine c f → f ≡ Some fault.Unreadable → ⊥
unfailing c f (inl e) p = let same = sym e ∙ p in cc same
unfailing c f (inr (e, may)) p = let same = some (sym e ∙ p) in cc same

-- at a fine claim no look finds more
shows_no_more : (steady : Bool) (limit : ℕ) (contents : List ℕ → Option (List ℕ)) → ShowsNoMore (Shows false steady limit (Some contents)) IsFine
shows_no_more steady limit contents c f g xs ys fine (inl h) (inl i) =
    subst (λ l. IsWithin l xs) (shown_once limit (contents c.digest) c f g xs ys h i).1 (λ x there. there)
shows_no_more steady limit contents c f g xs ys fine (inl h) (inr (lacks, (q, none))) = nothing_within xs ys none
shows_no_more steady limit contents c f g xs ys fine (inr (lacks, (p, none))) i = absurd (unfailing c f fine p)

-- ---- what a sound claim has

sound_judged : (limit : ℕ) (contents : List ℕ → Option (List ℕ)) (c : Claim) (bytes : List ℕ) (v : Verdict) (claims : List Claim) → contents c.digest ≡ Some bytes
    → IsSmall limit c → Tells c.digest c.size bytes v → IsJudgedBy (fault_of v) c.kind bytes None claims → IsSoundAt limit contents c
sound_judged limit contents c bytes verdict.Same claims there small (size, digest) h =
    record { bytes = bytes; there = there; small = small; size = size; digest = digest; claims = claims; document = h }
sound_judged limit contents c bytes (verdict.Shorter n) claims there small t (p, e) = cc p
sound_judged limit contents c bytes verdict.Longer claims there small t (p, e) = cc p
sound_judged limit contents c bytes (verdict.OtherDigest sum) claims there small t (p, e) = cc p
sound_judged limit contents c bytes verdict.Unjudged claims there small t (p, e) = cc p

sound_found : (limit : ℕ) (contents : List ℕ → Option (List ℕ)) (c : Claim) (o : Option (List ℕ)) (claims : List Claim) → contents c.digest ≡ o
    → IsShown limit o c None claims → IsSoundAt limit contents c
sound_found limit contents c None claims e (p, none) = cc p
sound_found limit contents c (Some bytes) claims e (inl (small, (v, t, j))) = sound_judged limit contents c bytes v claims e small t j
sound_found limit contents c (Some bytes) claims e (inr (large, (p, none))) = cc p

absent : (limit : ℕ) (contents : List ℕ → Option (List ℕ)) (c : Claim) (o : Option (List ℕ)) (claims : List Claim) → contents c.digest ≡ o
    → IsShown limit o c (Some fault.Missing) claims → contents c.digest ≡ None
absent limit contents c None claims e h = e
absent limit contents c (Some bytes) claims e h = absurd (shown_there fault.Missing limit bytes c claims refl h)

sound_shown : (steady : Bool) (limit : ℕ) (contents : List ℕ → Option (List ℕ)) (c : Claim) (f : Option Fault) (claims : List Claim) → IsFine c f
    → Shows false steady limit (Some contents) c f claims → IsSoundOrMissing limit contents c
sound_shown steady limit contents c f claims (inl e) (inl h) =
    inl (sound_found limit contents c (contents c.digest) claims refl (subst (λ x. IsShown limit (contents c.digest) c x claims) e h))
sound_shown steady limit contents c f claims (inr (e, may)) (inl h) =
    inr (absent limit contents c (contents c.digest) claims refl (subst (λ x. IsShown limit (contents c.digest) c x claims) e h), may)
sound_shown steady limit contents c f claims fine (inr (lacks, (p, none))) = absurd (unfailing c f fine p)

-- what is reached where one shows what the other does
reaches_by : (shows other : Show) → ((c : Claim) (f : Option Fault) (xs : List Claim) → shows c f xs → other c f xs) → (start : List Claim) (c : Claim) → Reaches shows start c
    → Reaches other start c
reaches_by shows other to start c (first h) = first h
reaches_by shows other to start d (further {c} f claims r shown h) = further f claims (reaches_by shows other to start c r) (to c f claims shown) h

pub sound_where_reached : (limit : ℕ) (steady : Bool) (contents : List ℕ → Option (List ℕ)) (start all : List Claim) (faults : List (Option Fault))
    → IsWalk (Shows false steady limit (Some contents)) start all faults → AreFine all faults → AreSoundFrom limit contents start
sound_where_reached limit steady contents start all faults w fine c r =
    let reached = reaches_by (IsShownIn limit contents) (Shows false steady limit (Some contents)) (λ d f xs h. inl h) start c r in
    let (k, below, at) = has_all (Shows false steady limit (Some contents)) IsFine start all faults (shows_no_more steady limit contents) w fine c reached in
    let here : slice_get all k ≡ Some c = slice_get-get_or all k c below ∙ ap Some at in
    let each = w.each in
    let told : slice_get faults k ≡ Some (get_or faults k None) = slice_get-get_or faults k None (omega arith) in
    let l = w.looked k c (get_or faults k None) here told in
    sound_shown steady limit contents c (get_or faults k None) l.claims (fine k c (get_or faults k None) here told) l.shown

-- ---- where no read fails

pub steady_shows : (limit : ℕ) (contents : List ℕ → Option (List ℕ)) (c : Claim) (f : Option Fault) (xs : List Claim) → Shows false true limit (Some contents) c f xs
    → IsShownIn limit contents c f xs
steady_shows limit contents c f xs (inl h) = h
steady_shows limit contents c f xs (inr (lacks, e)) = absurd (true≢false lacks)

-- at a sound claim nothing else is found
fine_shown : (limit : ℕ) (contents : List ℕ → Option (List ℕ)) (c : Claim) (f : Option Fault) (xs : List Claim) → IsSoundOrMissing limit contents c
    → IsShownIn limit contents c f xs → IsFine c f
fine_shown limit contents c f xs (inl s) h =
    inl (shown_once limit (contents c.digest) c f None xs s.claims h
    (subst (λ o. IsShown limit o c None s.claims) (sym s.there) (inl (s.small, (verdict.Same, (s.size, s.digest), s.document))))).0
fine_shown limit contents c f xs (inr (none, may)) h =
    inr ((shown_once limit (contents c.digest) c f (Some fault.Missing) xs [] h (subst (λ o. IsShown limit o c (Some fault.Missing) []) (sym none) (refl, refl))).0, may)

pub fine_where_sound : (limit : ℕ) (contents : List ℕ → Option (List ℕ)) (start all : List Claim) (faults : List (Option Fault))
    → IsWalk (Shows false true limit (Some contents)) start all faults → AreSoundFrom limit contents start → AreFine all faults
fine_where_sound limit contents start all faults w sound i c f e g =
    let l = w.looked i c f e g in
    let reached = reaches_by (Shows false true limit (Some contents)) (IsShownIn limit contents) (steady_shows limit contents) start c (w.reached c (at_place all i c e)) in
    fine_shown limit contents c f l.claims (sound c reached) (steady_shows limit contents c f l.claims l.shown)

-- ---- what is missing, and may be

pub reached_of : (limit : ℕ) (contents : List ℕ → Option (List ℕ)) (start all : List Claim) (faults : List (Option Fault))
    → IsWalk (Shows false true limit (Some contents)) start all faults → (c : Claim) → Contains all c → Reaches (IsShownIn limit contents) start c
reached_of limit contents start all faults w c h =
    reaches_by (Shows false true limit (Some contents)) (IsShownIn limit contents) (steady_shows limit contents) start c (w.reached c h)

pub contained : (limit : ℕ) (contents : List ℕ → Option (List ℕ)) (start all : List Claim) (faults : List (Option Fault))
    → IsWalk (Shows false true limit (Some contents)) start all faults → AreFine all faults → (c : Claim) → Reaches (IsShownIn limit contents) start c → Contains all c
contained limit contents start all faults w fine c r =
    let shows = Shows false true limit (Some contents) in
    has_all shows IsFine start all faults (shows_no_more true limit contents) w fine c (reaches_by (IsShownIn limit contents) shows (λ d f xs h. inl h) start c r)

-- where nothing was found, all is there
pub there_where_found : (limit : ℕ) (contents : List ℕ → Option (List ℕ)) (start all : List Claim) (faults : List (Option Fault))
    → IsWalk (Shows false true limit (Some contents)) start all faults → All (λ f. f ≡ None) faults → (c : Claim) → Contains all c → IsSome (contents c.digest)
there_where_found limit contents start all faults w none c (k, below, at) =
    let here : slice_get all k ≡ Some c = slice_get-get_or all k c below ∙ ap Some at in
    let each = w.each in
    let within : k < length faults = omega arith in
    let told : slice_get faults k ≡ Some (get_or faults k None) = slice_get-get_or faults k None within in
    let l = w.looked k c (get_or faults k None) here told in
    let shown = steady_shows limit contents c (get_or faults k None) l.claims l.shown in
    let sound = sound_found limit contents c (contents c.digest) l.claims refl (subst (λ f. IsShown limit (contents c.digest) c f l.claims) (none k None within) shown) in
    subst IsSome (sym sound.there) refl

one_at : {X : Type 0} (xs : List X) (k : ℕ) → k < length xs → (x : X) × (slice_get xs k ≡ Some x)
one_at [] k below = absurd (omega arith)
one_at (x ∷ xs) k below = (get_or (x ∷ xs) k x, slice_get-get_or (x ∷ xs) k x below)

-- where all is there, nothing was found
pub found_where_there : (limit : ℕ) (contents : List ℕ → Option (List ℕ)) (start all : List Claim) (faults : List (Option Fault))
    → IsWalk (Shows false true limit (Some contents)) start all faults → AreFine all faults → ((c : Claim) → Contains all c → IsSome (contents c.digest))
    → All (λ f. f ≡ None) faults
found_where_there limit contents start all faults w fine there k d below =
    let each = w.each in
    let (c, here) = one_at all k (omega arith) in
    let told : slice_get faults k ≡ Some (get_or faults k d) = slice_get-get_or faults k d below in
    let l = w.looked k c (get_or faults k d) here told in
    by c (get_or faults k d) l.claims (fine k c (get_or faults k d) here told) (steady_shows limit contents c (get_or faults k d) l.claims l.shown) (there c (at_place all k c here))
  where
    by : (c : Claim) (f : Option Fault) (xs : List Claim) → IsFine c f → IsShownIn limit contents c f xs → IsSome (contents c.digest) → f ≡ None
    by c f xs (inl e) h is = e
    by c f xs (inr (e, may)) h is =
        let none = absent limit contents c (contents c.digest) xs refl (subst (λ g. IsShown limit (contents c.digest) c g xs) e h) in
        absurd (true≢false (sym (subst IsSome none is)))
