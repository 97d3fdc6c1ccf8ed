-- Whether an image layout is right (image specification, "Image Layout"), and what is found of it.
use Rattle.std.specs.Prelude.{◌≡◌, ◌⊎◌, ◌↔◌, ⊤, ℕ, List, Bool, true, false, codes, Option, None, Some, IsSome, IsTrue, string_bytes}
use Rattle.std.specs.List.{All, Contains}
use Rattle.serde_json.specs.Data.{Data}
use Rattle.oci_json.specs.Engines.{ReadsAs}
use Rattle.oci_agreement.specs.Images.{Image}
use Rattle.oci_layout.specs.Claims.{items_at}
use Rattle.oci_layout.specs.Documents.{IsRead}
use Rattle.oci_layout.specs.Looks.{Contents, IsShownIn, Shows, is_unread}
use Rattle.oci_layout.specs.Marker.{HasMarker}
use Rattle.oci_layout.specs.Names.{IsPathOf, IsListing}
use Rattle.oci_layout.specs.Sound.{AreFine, IsSoundBy}
use Rattle.oci_layout.specs.Walk.{IsWalk, Reaches}
use Rattle.oci_layout.specs.declared.claim.Claim.{Claim}
use Rattle.oci_layout.specs.declared.claim.Fault.{Fault}
use Rattle.oci_layout.specs.declared.kind.Kind.TheVariants.{Index}
use Rattle.oci_layout.specs.declared.store.Listed.{Listed}
use Rattle.oci_schemas.specs.declared.kind.Kind.TheVariants as documents
use Rattle.oci_findings.specs.declared.asked.Check.{Check}
use Rattle.oci_verify.specs.Images.{ImagesKeep, IsImageOf, IsValueOf, Keeps, OverContents, is_index}
use Rattle.oci_verify.specs.Kept.{AreBytes}
use Rattle.oci_verify.specs.Layers.{LayersUnpack}
use Rattle.oci_verify.specs.Passing.{Books, ClaimPasses, FoundPassing, Passes}
use Rattle.oci_verify.specs.declared.options.Options.{Options}

-- ---- a layout, by the bytes of its files beside `blobs`, the names below `blobs`, and its contents by digest

-- the index reaches the claim
pub record IsReached (limit : ℕ) (tops contents : List ℕ → Option (List ℕ)) (claim : Claim) : Type 0 where
  pub index : List ℕ
  pub there : tops (codes "index.json") ≡ Some index
  pub claims : List Claim
  pub document : IsRead Index index None claims
  pub reached : Reaches (IsShownIn limit contents) claims claim

-- the value of `index.json`, or of an index that it reaches
abbrev pub IsTopIndex : (List ℕ → Option (List ℕ)) → Data → Type 0
IsTopIndex tops d = (bytes : List ℕ) × (tops (codes "index.json") ≡ Some bytes) × ReadsAs bytes d

abbrev pub IsReachedIndex : ℕ → (List ℕ → Option (List ℕ)) → (List ℕ → Option (List ℕ)) → Data → Type 0
IsReachedIndex limit tops contents d = (c : Claim) × IsReached limit tops contents c × IsTrue (is_index c.kind) × IsValueOf limit contents c.digest c.size d

-- an image of one of these
pub record IsReachedImage (limit : ℕ) (tops contents : List ℕ → Option (List ℕ)) (i : Image) : Type 0 where
  pub index : Data
  pub reached : IsTopIndex tops index ⊎ IsReachedIndex limit tops contents index
  pub descriptor : Data
  pub listed : Contains (items_at (codes "manifests") index) descriptor
  pub image : IsImageOf limit contents descriptor i

-- the documents of each image agree on what counts
abbrev pub AllAgree : Check → ℕ → (List ℕ → Option (List ℕ)) → (List ℕ → Option (List ℕ)) → Type 0
AllAgree asked limit tops contents = (i : Image) → IsReachedImage limit tops contents i → Keeps asked i

-- the compressed layers of each image unpack to what its configuration says
abbrev pub AllUnpack : Check → ℕ → (List ℕ → Option (List ℕ)) → (List ℕ → Option (List ℕ)) → Type 0
AllUnpack asked limit tops contents = (i : Image) → IsReachedImage limit tops contents i → LayersUnpack asked contents i

-- each document passes `check`: `index.json` as an index, and each content that it reaches as what is claimed of it
pub record AllPass (books : Books) (asked : Check) (limit : ℕ) (tops contents : List ℕ → Option (List ℕ)) : Type 0 where
  pub index : (bytes : List ℕ) → tops (codes "index.json") ≡ Some bytes → Passes books asked documents.Index bytes
  pub reached : (c : Claim) → IsReached limit tops contents c → ClaimPasses books asked limit contents c

-- nothing is worth a note: all that is reached is there, all that is there is reached, and what is a document by its role is looked into
pub record HasNoNote (limit : ℕ) (names : List ℕ → Type 0) (tops contents : List ℕ → Option (List ℕ)) : Type 0 where
  pub there : (c : Claim) → IsReached limit tops contents c → IsSome (contents c.digest)
  pub reached : (path : List ℕ) → names path → (c : Claim) × IsReached limit tops contents c × IsPathOf c.digest path
  pub read : (c : Claim) → IsReached limit tops contents c → is_unread c ≡ false

-- what the options ask is so
pub record IsRightLayout (books : Books) (options : Options) (names : List ℕ → Type 0) (tops contents : List ℕ → Option (List ℕ)) : Type 0 where
  pub marker : HasMarker options.limit tops
  pub sound : IsSoundBy options.limit tops contents
  pub agree : AllAgree options.check options.limit tops contents
  pub layers : AllUnpack options.check options.limit tops contents
  pub passing : AllPass books options.check options.limit tops contents
  pub notes : options.check.strict ≡ true → HasNoNote options.limit names tops contents

-- the same without the marker
pub record IsRightIndex (books : Books) (options : Options) (names : List ℕ → Type 0) (tops contents : List ℕ → Option (List ℕ)) : Type 0 where
  pub sound : IsSoundBy options.limit tops contents
  pub agree : AllAgree options.check options.limit tops contents
  pub layers : AllUnpack options.check options.limit tops contents
  pub passing : AllPass books options.check options.limit tops contents
  pub notes : options.check.strict ≡ true → HasNoNote options.limit names tops contents

-- ---- where all of it is known, the contents are bytes, and no read fails

abbrev pub OverSteady : Bool → Contents → Contents → ((List ℕ → Option (List ℕ)) → (List ℕ → Option (List ℕ)) → Type 0) → Type 0
OverSteady true (Some tops) (Some contents) P = AreBytes contents → P tops contents
OverSteady true (Some tops) None P = ⊤
OverSteady true None contents P = ⊤
OverSteady false tops contents P = ⊤

-- the status says whether it is right; 3 says neither
abbrev pub IsAnswer : ℕ → Type 0 → Type 0
IsAnswer status right = ((status ≡ 0) × right) ⊎ (((status ≡ 1) × ¬ right) ⊎ (status ≡ 3))

-- ---- what is found

-- the path is that of one of the claims
abbrev pub IsNameOf : List Claim → List ℕ → Type 0
IsNameOf claims path = (c : Claim) × Contains claims c × IsPathOf c.digest path

-- the test tells these paths
abbrev pub ArePathsOf : List Claim → (List ℕ → Bool) → Type 0
ArePathsOf claims has = (path : List ℕ) → (has path ≡ true) ↔ IsNameOf claims path

-- the test tells each listed name, and what is claimed is looked into
abbrev pub AreKnown : List Claim → List Listed → (List ℕ → Bool) → Type 0
AreKnown claims listed has = All (λ l. has (string_bytes l.path) ≡ true) listed × All (λ c. is_unread c ≡ false) claims

-- no note: nothing is missing, not even what may be, what is listed is claimed, and what is claimed is looked into
pub record IsQuiet (claims : List Claim) (faults : List (Option Fault)) (listed : List Listed) : Type 0 where
  pub there : All (λ f. f ≡ None) faults
  pub claimed : All (λ l. IsNameOf claims (string_bytes l.path)) listed
  pub read : All (λ c. is_unread c ≡ false) claims

-- nothing stands against the index, the claims of a walk, and the list of what lies below `blobs`
pub record IsFoundRight (strict : Bool) (before : Option Fault) (claims : List Claim) (faults : List (Option Fault)) (listed : List Listed) : Type 0 where
  pub index : before ≡ None
  pub fine : AreFine claims faults
  pub whole : All (λ l. l.fault ≡ None) listed
  pub quiet : strict ≡ true → IsQuiet claims faults listed

-- a walk from the first claims on, such a list, whether the images of the index in these bytes and of those that are claimed are fine, by what they agree on and by their layers,
-- whether the documents pass, and whether so much is found right
pub record IsJudged (books : Books) (options : Options) (steady : Bool) (names : List ℕ → Type 0) (contents : Contents) (index : List ℕ) (before : Option Fault) (first : List Claim) (right : Bool) : Type 0 where
  pub claims : List Claim
  pub faults : List (Option Fault)
  pub listed : List Listed
  pub walk : IsWalk (Shows options.quick steady options.limit contents) first claims faults
  pub listing : IsListing steady names listed
  pub agree : Bool
  pub images : options.quick ≡ false → OverContents steady contents (λ c. IsTrue agree ↔ ImagesKeep options.check options.limit c index claims)
  pub pass : Bool
  pub passing : OverContents steady contents (λ c. IsTrue pass ↔ FoundPassing books options.check options.limit c index before claims faults)
  pub told : IsTrue right ↔ (IsFoundRight options.check.strict before claims faults listed × IsTrue agree × IsTrue pass)

-- the same, from the bytes of the index on
pub record IsJudgedIndex (books : Books) (options : Options) (steady : Bool) (names : List ℕ → Type 0) (contents : Contents) (index : List ℕ) (right : Bool) : Type 0 where
  pub before : Option Fault
  pub first : List Claim
  pub read : IsRead Index index before first
  pub judged : IsJudged books options steady names contents index before first right
