-- What is found at a claim, by the steps in which it is found.
use Rattle.std.proofs.Common.{◌≡◌, ℕ, ◌<◌, Bool, true, false, List, [], length, Option, None, Some, Result, Ok, Err, IfOk, IfSome, inl, inr, refl, sym, subst}
use Rattle.std.specs.declared.alloc.AllocError.{AllocError}
use Rattle.std.specs.declared.io.Error.{Error}
use Rattle.oci_content.specs.Content.{Tells}
use Rattle.oci_content.specs.declared.verdict.Verdict.{Verdict}
use Rattle.oci_content.specs.declared.verdict.Verdict.TheVariants as verdict
use Rattle.oci_content.proofs.Verdicts.{one_verdict}
use Rattle.oci_layout.specs.Documents.{IsFault, IsReadBy}
use Rattle.oci_layout.specs.Kinds.{document_shape}
use Rattle.oci_layout.specs.Looks.{fault_of, IsJudgedBy, IsVerified, MayFail, IsVerifiedOrFails, IsSmall, IsShown, IsShownOrFails, IsCut, Contents, Shows, Gives}
use Rattle.oci_layout.specs.declared.kind.Kind.{Kind}
use Rattle.oci_layout.specs.declared.store.Opened.TheVariants.{Missing, Unreadable, Content}
use Rattle.oci_layout.specs.declared.claim.Claim.{Claim}
use Rattle.oci_layout.specs.declared.claim.Seen.{Seen}
use Rattle.oci_layout.specs.declared.claim.Fault.{Fault}
use Rattle.oci_layout.specs.declared.claim.Fault.TheVariants as fault

-- by the size alone
pub size_shorter : (claim : Claim) (size : Option ℕ) (found : ℕ) (f : Option Fault) (claims : List Claim) → size ≡ Some found → found < claim.size
    → IsFault (fault.Shorter found) f claims → (bytes : List ℕ) → IfSome size (λ n. n ≡ length bytes) → IsVerified bytes claim f claims
size_shorter claim size found f claims is less told bytes known =
    let at : found ≡ length bytes = subst (λ o. IfSome o (λ n. n ≡ length bytes)) is known in
    (verdict.Shorter found, (sym at, less), told)

pub size_longer : (claim : Claim) (size : Option ℕ) (found : ℕ) (f : Option Fault) (claims : List Claim) → size ≡ Some found → claim.size < found
    → IsFault fault.Longer f claims → (bytes : List ℕ) → IfSome size (λ n. n ≡ length bytes) → IsVerified bytes claim f claims
size_longer claim size found f claims is more told bytes known =
    let at : found ≡ length bytes = subst (λ o. IfSome o (λ n. n ≡ length bytes)) is known in
    (verdict.Longer, subst (λ n. claim.size < n) at more, told)

-- what fails is not steady
unsteady : (steady : Bool) → (steady ≡ true → ⊥) → steady ≡ false
unsteady true lacks = absurd (lacks refl)
unsteady false lacks = refl

pub failed : (steady : Bool) (f : Option Fault) (claims : List Claim) → (steady ≡ true → ⊥) → IsFault fault.Unreadable f claims → MayFail steady f claims
failed steady f claims lacks told = (unsteady steady lacks, told)

-- of bytes that are no document, any will do
unread : (k : Kind) (other bytes : List ℕ) (o f : Option Fault) (claims : List Claim) → document_shape k ≡ None → IsJudgedBy o k other f claims
    → IsJudgedBy o k bytes f claims
unread k other bytes (Some fault) f claims e h = h
unread k other bytes None f claims e h =
    let nothing : IsReadBy None k other f claims = subst (λ s. IsReadBy s k other f claims) e h in
    subst (λ s. IsReadBy s k bytes f claims) (sym e) nothing

pub bytes_verified : (steady : Bool) (known : Option (List ℕ)) (claim : Claim) (v : Verdict) (r : Result Seen AllocError) → document_shape claim.kind ≡ None
    → IfSome known (λ bytes. Tells claim.digest claim.size bytes v) → IfOk r (λ s. IsJudgedBy (fault_of v) claim.kind [] s.fault s.claims.items)
    → IfOk r (λ s. IfSome known (λ bytes. IsVerifiedOrFails steady bytes claim s.fault s.claims.items))
bytes_verified steady known claim v (Err e) none tells judged = tt
bytes_verified steady None claim v (Ok s) none tells judged = tt
bytes_verified steady (Some bytes) claim v (Ok s) none tells judged = inl (v, tells, unread claim.kind [] bytes (fault_of v) s.fault s.claims.items none judged)

-- all bytes, or too many
pub document_verified : (steady : Bool) (known : Option (List ℕ)) (claim : Claim) (v : Verdict) (bytes : List ℕ) (r : Result Seen AllocError)
    → IfSome known (λ all. IsCut bytes all claim.size) → Tells claim.digest claim.size bytes v
    → IfOk r (λ s. IsJudgedBy (fault_of v) claim.kind bytes s.fault s.claims.items)
    → IfOk r (λ s. IfSome known (λ all. IsVerifiedOrFails steady all claim s.fault s.claims.items))
document_verified steady known claim v bytes (Err e) cut tells judged = tt
document_verified steady None claim v bytes (Ok s) cut tells judged = tt
document_verified steady (Some all) claim v bytes (Ok s) (inl same) tells judged =
    inl (subst (λ l. IsVerified l claim s.fault s.claims.items) same (v, tells, judged))
document_verified steady (Some all) claim v bytes (Ok s) (inr (cut, long)) tells judged =
    let longer : v ≡ verdict.Longer = one_verdict claim.digest claim.size bytes v verdict.Longer tells cut in
    inl (verdict.Longer, long, subst (λ w. IsJudgedBy (fault_of w) claim.kind bytes s.fault s.claims.items) longer judged)

pub failed_known : (steady : Bool) (known : Option (List ℕ)) (claim : Claim) (f : Option Fault) (claims : List Claim) → (steady ≡ true → ⊥) → IsFault fault.Unreadable f claims
    → IfSome known (λ all. IsVerifiedOrFails steady all claim f claims)
failed_known steady None claim f claims lacks told = tt
failed_known steady (Some all) claim f claims lacks told = inr (failed steady f claims lacks told)

-- a small claim of bytes that were looked at
pub looked_at : (steady : Bool) (limit : ℕ) (claim : Claim) (known : Option (List ℕ)) (r : Result Seen AllocError) → IsSmall limit claim
    → IfOk r (λ s. IfSome known (λ all. IsVerifiedOrFails steady all claim s.fault s.claims.items))
    → IfOk r (λ s. (bytes : List ℕ) → known ≡ Some bytes → IsShownOrFails steady limit (Some bytes) claim s.fault s.claims.items)
looked_at steady limit claim known (Err e) small h = tt
looked_at steady limit claim known (Ok s) small h = λ bytes is.
    by bytes (subst (λ o. IfSome o (λ all. IsVerifiedOrFails steady all claim s.fault s.claims.items)) is h)
  where
    by : (bytes : List ℕ) → IsVerifiedOrFails steady bytes claim s.fault s.claims.items → IsShownOrFails steady limit (Some bytes) claim s.fault s.claims.items
    by bytes (inl v) = inl (inl (small, v))
    by bytes (inr m) = inr m

-- the same, of what is looked at in full and of a length that may be known
pub looked_into : (quick steady : Bool) (limit : ℕ) (claim : Claim) (known : Option (List ℕ)) (size : Option ℕ) (r : Result Seen AllocError)
    → IfOk r (λ s. (bytes : List ℕ) → known ≡ Some bytes → IsShownOrFails steady limit (Some bytes) claim s.fault s.claims.items)
    → IfOk r (λ s. (bytes : List ℕ) → known ≡ Some bytes → IfSome size (λ n. n ≡ length bytes) → quick ≡ false → IsShownOrFails steady limit (Some bytes) claim s.fault s.claims.items)
looked_into quick steady limit claim known size (Err e) h = tt
looked_into quick steady limit claim known size (Ok s) h = λ bytes is counted full. h bytes is

-- ---- what a store shows

pub missing_shown : {B : Type 0} (remaining : B → Option (List ℕ)) (quick steady : Bool) (limit : ℕ) (contents : Contents) (claim : Claim) (f : Option Fault) (claims : List Claim)
    → Gives remaining steady contents claim.digest Missing → IsFault fault.Missing f claims → Shows quick steady limit contents claim f claims
missing_shown remaining quick steady limit None claim f claims g told = tt
missing_shown remaining true steady limit (Some contents) claim f claims g told = tt
missing_shown remaining false steady limit (Some contents) claim f claims g told = inl (subst (λ o. IsShown limit o claim f claims) (sym g) told)

pub unreadable_shown : {B : Type 0} (remaining : B → Option (List ℕ)) (quick steady : Bool) (limit : ℕ) (contents : Contents) (claim : Claim) (f : Option Fault) (claims : List Claim)
    (why : Error) → Gives remaining steady contents claim.digest (Unreadable why) → IsFault fault.Unreadable f claims → Shows quick steady limit contents claim f claims
unreadable_shown remaining quick steady limit None claim f claims why g told = tt
unreadable_shown remaining true steady limit (Some contents) claim f claims why g told = tt
unreadable_shown remaining false steady limit (Some contents) claim f claims why g told = inr (g, told)

shown : {B : Type 0} (remaining : B → Option (List ℕ)) (quick steady : Bool) (limit : ℕ) (contents : Contents) (claim : Claim) (blob : B) (size : Option ℕ)
    (f : Option Fault) (claims : List Claim) → Gives remaining steady contents claim.digest (Content blob size)
    → ((bytes : List ℕ) → remaining blob ≡ Some bytes → IfSome size (λ n. n ≡ length bytes) → quick ≡ false → IsShownOrFails steady limit (Some bytes) claim f claims)
    → Shows quick steady limit contents claim f claims
shown remaining quick steady limit None claim blob size f claims g h = tt
shown remaining true steady limit (Some contents) claim blob size f claims g h = tt
shown remaining false steady limit (Some contents) claim blob size f claims (bytes, is, there, known) h =
    subst (λ o. IsShownOrFails steady limit o claim f claims) (sym there) (h bytes is known refl)

pub shown_ok : {B : Type 0} (remaining : B → Option (List ℕ)) (quick steady : Bool) (limit : ℕ) (contents : Contents) (claim : Claim) (blob : B) (size : Option ℕ)
    (r : Result Seen AllocError) → Gives remaining steady contents claim.digest (Content blob size)
    → IfOk r (λ s. (bytes : List ℕ) → remaining blob ≡ Some bytes → IfSome size (λ n. n ≡ length bytes) → quick ≡ false
    → IsShownOrFails steady limit (Some bytes) claim s.fault s.claims.items)
    → IfOk r (λ s. Shows quick steady limit contents claim s.fault s.claims.items)
shown_ok remaining quick steady limit contents claim blob size (Err e) g h = tt
shown_ok remaining quick steady limit contents claim blob size (Ok s) g h = shown remaining quick steady limit contents claim blob size s.fault s.claims.items g h
