-- What a walk without a finding says.
use Rattle.std.specs.Prelude.{◌≡◌, ◌⊎◌, ℕ, ◌<◌, ◌≤◌, List, Bool, false, Option, Some, None, IsTrue, codes, length, slice_get, ⊤}
use Rattle.oci_content.specs.Content.{IsDigestOf}
use Rattle.oci_layout.specs.Documents.{IsRead}
use Rattle.oci_layout.specs.Looks.{may_miss, Contents, IsShownIn, IsSmall}
use Rattle.oci_layout.specs.Marker.{IsMarked}
use Rattle.oci_layout.specs.Walk.{Reaches}
use Rattle.oci_layout.specs.declared.kind.Kind.TheVariants.{Index}
use Rattle.oci_layout.specs.declared.top.Top.{Top}
use Rattle.oci_layout.specs.declared.top.Top.TheVariants.{Unreadable, TooLarge, Bytes}
use Rattle.oci_layout.specs.declared.top.Top.TheVariants as top
use Rattle.oci_layout.specs.declared.claim.Claim.{Claim}
use Rattle.oci_layout.specs.declared.claim.Fault.{Fault}
use Rattle.oci_layout.specs.declared.claim.Fault.TheVariants.{Missing}

-- no finding: no fault, or a content that is missing and may be
abbrev pub IsFine : Claim → Option Fault → Type 0
IsFine claim found = (found ≡ None) ⊎ ((found ≡ Some Missing) × IsTrue (may_miss claim))

-- at each place
abbrev pub AreFine : List Claim → List (Option Fault) → Type 0
AreFine all faults = (i : ℕ) (c : Claim) (f : Option Fault) → slice_get all i ≡ Some c → slice_get faults i ≡ Some f → IsFine c f

-- what is claimed is there, as large and with the digest that is claimed, and is the document of its kind, no larger than the limit
pub record IsSoundAt (limit : ℕ) (contents : List ℕ → Option (List ℕ)) (claim : Claim) : Type 0 where
  pub bytes : List ℕ
  pub there : contents claim.digest ≡ Some bytes
  pub small : IsSmall limit claim
  pub size : length bytes ≡ claim.size
  pub digest : IsDigestOf claim.digest bytes
  pub claims : List Claim
  pub document : IsRead claim.kind bytes None claims

-- or it is missing, and may be
abbrev pub IsSoundOrMissing : ℕ → (List ℕ → Option (List ℕ)) → Claim → Type 0
IsSoundOrMissing limit contents claim = IsSoundAt limit contents claim ⊎ ((contents claim.digest ≡ None) × IsTrue (may_miss claim))

-- nothing stands against all that is reached from these claims
abbrev pub AreSoundFrom : ℕ → (List ℕ → Option (List ℕ)) → List Claim → Type 0
AreSoundFrom limit contents start = (c : Claim) → Reaches (IsShownIn limit contents) start c → IsSoundOrMissing limit contents c

-- the index of an image layout by its files beside `blobs` and its contents: all that it reaches is there, or may be missing
pub record IsSoundBy (limit : ℕ) (tops contents : List ℕ → Option (List ℕ)) : Type 0 where
  pub index : List ℕ
  pub there : tops (codes "index.json") ≡ Some index
  pub small : length index ≤ limit
  pub claims : List Claim
  pub document : IsRead Index index None claims
  pub reached : AreSoundFrom limit contents claims

-- where both are known
abbrev pub IsSoundIndex : ℕ → Contents → Contents → Type 0
IsSoundIndex limit None contents = ⊤
IsSoundIndex limit (Some tops) None = ⊤
IsSoundIndex limit (Some tops) (Some contents) = IsSoundBy limit tops contents

-- it has a marker, and all that its index reaches is sound
pub record IsSoundLayout (limit : ℕ) (tops contents : Contents) : Type 0 where
  pub marker : IsMarked limit tops
  pub index : IsSoundIndex limit tops contents

-- the file has more bytes than this
abbrev pub IsLarger : ℕ → Option (List ℕ) → Type 0
IsLarger limit file = (bytes : List ℕ) × (file ≡ Some bytes) × (limit < length bytes)

-- what was read of these bytes; `steady` says that reads do not fail
abbrev pub IsReadOf : ℕ → Bool → List ℕ → Top → Type 0
IsReadOf limit steady all top.Missing = ⊥
IsReadOf limit steady all (Unreadable why) = steady ≡ false
IsReadOf limit steady all TooLarge = limit < length all
IsReadOf limit steady all (Bytes bytes) = (bytes.items ≡ all) × (length bytes.items ≤ limit)

-- what was read of a file beside `blobs`, or of a content, where these are known; `steady` says that reads do not fail
abbrev pub IsTop : ℕ → Bool → Contents → List ℕ → Top → Type 0
IsTop limit steady None name top = ⊤
IsTop limit steady (Some tops) name top.Missing = tops name ≡ None
IsTop limit steady (Some tops) name (Unreadable why) = steady ≡ false
IsTop limit steady (Some tops) name TooLarge = IsLarger limit (tops name)
IsTop limit steady (Some tops) name (Bytes bytes) = (tops name ≡ Some bytes.items) × (length bytes.items ≤ limit)
