-- Which documents of a layout pass `check`.
use Rattle.std.specs.Prelude.{◌≡◌, ℕ, List, Option, Some, None, slice_get}
use Rattle.serde_json.specs.Data.{Data}
use Rattle.oci_json.specs.Engines.{ReadsAs}
use Rattle.oci_schemas.specs.declared.kind.Kind.{Kind as DocumentKind}
use Rattle.oci_schemas.specs.declared.kind.Kind.TheVariants as documents
use Rattle.oci_rules.specs.Rules.{Rule}
use Rattle.oci_layout.specs.declared.claim.Claim.{Claim}
use Rattle.oci_layout.specs.declared.claim.Fault.{Fault}
use Rattle.oci_layout.specs.declared.kind.Kind.{Kind}
use Rattle.oci_layout.specs.declared.kind.Kind.TheVariants.{Index, DockerList, Manifest, DockerManifest, Artifact, Config, DockerConfig, Empty, Opaque}
use Rattle.oci_findings.specs.Checks.{HasKeysOnce, IsRightValue}
use Rattle.oci_findings.specs.declared.asked.Check.{Check}
use Rattle.oci_verify.specs.Images.{IsSmallKept}

-- the rules of the specifications, by the kind of documents
abbrev pub Books : Type 0
Books = DocumentKind → List Rule

-- the kind of documents as which a content is checked, if there is one; Docker's documents are checked as those of OCI
abbrev pub document_kind : Kind → Option DocumentKind
document_kind Index = Some documents.Index
document_kind DockerList = Some documents.Index
document_kind Manifest = Some documents.Manifest
document_kind DockerManifest = Some documents.Manifest
document_kind Artifact = Some documents.Artifact
document_kind Config = Some documents.Config
document_kind DockerConfig = Some documents.Config
document_kind Empty = None
document_kind Opaque = None

-- the bytes are JSON, and right by all that `check` is asked of documents of the kind
abbrev pub Passes : Books → Check → DocumentKind → List ℕ → Type 0
Passes books asked kind bytes = (d : Data) × ReadsAs bytes d × IsRightValue books asked kind d × HasKeysOnce asked kind bytes

-- so is the document that is claimed, if it is there, with its digest and size, and no larger than the limit
abbrev pub ClaimPasses : Books → Check → ℕ → (List ℕ → Option (List ℕ)) → Claim → Type 0
ClaimPasses books asked limit contents c =
    (kind : DocumentKind) (bytes : List ℕ) → document_kind c.kind ≡ Some kind → IsSmallKept limit contents c.digest c.size bytes → Passes books asked kind bytes

-- ---- what is found

-- the claim at a place of a walk, where no fault was found
abbrev pub IsFineAt : List Claim → List (Option Fault) → ℕ → Claim → Type 0
IsFineAt claims faults place c = (slice_get claims place ≡ Some c) × (slice_get faults place ≡ Some None)

-- the document that is claimed there passes
abbrev pub PlacePasses : Books → Check → ℕ → (List ℕ → Option (List ℕ)) → List Claim → List (Option Fault) → ℕ → Type 0
PlacePasses books asked limit contents claims faults place = (c : Claim) → IsFineAt claims faults place c → ClaimPasses books asked limit contents c

-- so does `index.json`, of which these are the bytes, unless a fault was found there, and the document that is claimed at each place
pub record FoundPassing (books : Books) (asked : Check) (limit : ℕ) (contents : List ℕ → Option (List ℕ)) (index : List ℕ) (before : Option Fault) (claims : List Claim) (faults : List (Option Fault)) : Type 0 where
  pub top : before ≡ None → Passes books asked documents.Index index
  pub claimed : (place : ℕ) → PlacePasses books asked limit contents claims faults place
