-- What is found at a claim, where the contents of a store are known.
use Rattle.std.specs.Prelude.{◌≡◌, ◌⊎◌, ℕ, ◌<◌, ◌≤◌, length, List, Bool, true, false, ◌&&◌, ◌||◌, Option, Some, None, IsSome, IfSome, ⊤}
use Rattle.oci_content.specs.Content.{Tells}
use Rattle.oci_content.specs.declared.verdict.Verdict.{Verdict}
use Rattle.oci_content.specs.declared.verdict.Verdict.TheVariants as verdict
use Rattle.oci_layout.specs.Documents.{IsFault, IsRead}
use Rattle.oci_layout.specs.Kinds.{document_shape}
use Rattle.oci_layout.specs.declared.kind.Kind.{Kind}
use Rattle.oci_layout.specs.declared.kind.Kind.TheVariants.{Opaque}
use Rattle.oci_layout.specs.declared.claim.Role.{Role}
use Rattle.oci_layout.specs.declared.claim.Role.TheVariants.{Manifest, Config, Subject}
use Rattle.oci_layout.specs.declared.claim.Claim.{Claim}
use Rattle.oci_layout.specs.declared.claim.Fault.{Fault}
use Rattle.oci_layout.specs.declared.claim.Fault.TheVariants as fault
use Rattle.oci_layout.specs.declared.store.Opened.{Opened}
use Rattle.oci_layout.specs.declared.store.Opened.TheVariants.{Missing, Unreadable, Content}

abbrev pub is_subject : Role → Bool
is_subject Subject = true
is_subject _ = false

-- a claim whose content may be missing: a subject, and a nondistributable layer that may be had elsewhere
abbrev pub may_miss : Claim → Bool
may_miss claim = is_subject claim.role || claim.elsewhere

-- a claim of a document by its role, whose media type is of no kind that is known
abbrev pub is_document_role : Role → Bool
is_document_role Manifest = true
is_document_role Config = true
is_document_role Subject = true
is_document_role _ = false

abbrev pub is_opaque : Kind → Bool
is_opaque Opaque = true
is_opaque _ = false

abbrev pub is_unread : Claim → Bool
is_unread claim = is_opaque claim.kind && is_document_role claim.role

-- what stands against a content by its verdict
abbrev pub fault_of : Verdict → Option Fault
fault_of verdict.Same = None
fault_of (verdict.Shorter n) = Some (fault.Shorter n)
fault_of verdict.Longer = Some fault.Longer
fault_of (verdict.OtherDigest sum) = Some (fault.OtherDigest sum)
fault_of verdict.Unjudged = Some fault.Unjudged

-- what is found in bytes with this verdict: its fault, or what is found in the document
abbrev pub IsJudgedBy : Option Fault → Kind → List ℕ → Option Fault → List Claim → Type 0
IsJudgedBy None kind bytes found claims = IsRead kind bytes found claims
IsJudgedBy (Some f) kind bytes found claims = IsFault f found claims

-- the verdict on the bytes, and what is found in them
abbrev pub IsVerified : List ℕ → Claim → Option Fault → List Claim → Type 0
IsVerified bytes claim found claims = (v : Verdict) × Tells claim.digest claim.size bytes v × IsJudgedBy (fault_of v) claim.kind bytes found claims

-- the claim is of no document, or of one that is said to be no larger than the limit
abbrev pub IsSmall : ℕ → Claim → Type 0
IsSmall limit claim = IsSome (document_shape claim.kind) → claim.size ≤ limit

-- a document that is said to be larger than the limit
abbrev pub IsTooLarge : ℕ → Claim → Option Fault → List Claim → Type 0
IsTooLarge limit claim found claims = (¬ IsSmall limit claim) × IsFault fault.TooLarge found claims

-- what is found at a claim, by what is there: one thing alone, since no claim is both small and too large, and bytes have one verdict
abbrev pub IsShown : ℕ → Option (List ℕ) → Claim → Option Fault → List Claim → Type 0
IsShown limit None claim found claims = IsFault fault.Missing found claims
IsShown limit (Some bytes) claim found claims = (IsSmall limit claim × IsVerified bytes claim found claims) ⊎ IsTooLarge limit claim found claims

-- the same, where contents are known
abbrev pub IsShownIn : ℕ → (List ℕ → Option (List ℕ)) → Claim → Option Fault → List Claim → Type 0
IsShownIn limit contents claim found claims = IsShown limit (contents claim.digest) claim found claims

-- where reads can fail, a content may be unreadable
abbrev pub MayFail : Bool → Option Fault → List Claim → Type 0
MayFail steady found claims = (steady ≡ false) × IsFault fault.Unreadable found claims

abbrev pub IsVerifiedOrFails : Bool → List ℕ → Claim → Option Fault → List Claim → Type 0
IsVerifiedOrFails steady bytes claim found claims = IsVerified bytes claim found claims ⊎ MayFail steady found claims

abbrev pub IsShownOrFails : Bool → ℕ → Option (List ℕ) → Claim → Option Fault → List Claim → Type 0
IsShownOrFails steady limit there claim found claims = IsShown limit there claim found claims ⊎ MayFail steady found claims

-- the contents of a store by digest, where they are known
abbrev pub Contents : Type 0
Contents = Option (List ℕ → Option (List ℕ))

-- these are all the bytes, or a beginning that shows that they are too many
abbrev pub IsCut : List ℕ → List ℕ → ℕ → Type 0
IsCut bytes all size = (bytes ≡ all) ⊎ ((size < length bytes) × (size < length all))

-- what a store shows at a claim; `steady` says that its reads do not fail. Of a quick look, which leaves contents that are no documents unread, nothing is said
abbrev pub Shows : Bool → Bool → ℕ → Contents → Claim → Option Fault → List Claim → Type 0
Shows quick steady limit None claim found claims = ⊤
Shows true steady limit (Some contents) claim found claims = ⊤
Shows false steady limit (Some contents) claim found claims = IsShownOrFails steady limit (contents claim.digest) claim found claims

-- what was opened can be read, as far as it is there
abbrev pub IsReadable : {B : Type 0} → Opened B → Type 0
IsReadable (Unreadable why) = ⊥
IsReadable _ = ⊤

-- what a store gives for a digest: nothing, or a reader of the content with its length, where that is known beforehand; or what cannot be read, unless it is steady
abbrev pub Gives : {B : Type 0} → (B → Option (List ℕ)) → Bool → Contents → List ℕ → Opened B → Type 0
Gives remaining steady None digest opened = ⊤
Gives remaining steady (Some contents) digest Missing = contents digest ≡ None
Gives remaining steady (Some contents) digest (Unreadable why) = steady ≡ false
Gives remaining steady (Some contents) digest (Content blob size) = (bytes : List ℕ) × (remaining blob ≡ Some bytes) × (contents digest ≡ Some bytes)
    × IfSome size (λ n. n ≡ length bytes)
