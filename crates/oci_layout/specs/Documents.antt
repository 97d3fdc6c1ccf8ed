-- What is found in the bytes of a document.
use Rattle.std.specs.Prelude.{◌≡◌, ◌⊎◌, ℕ, List, [], ◌∷◌, codes, if◌then◌else◌, Option, Some, None, IsSome, option_and_then}
use Rattle.std.specs.List.{All}
use Rattle.serde_json.specs.Data.{Data}
use Rattle.serde_json.specs.Find.{as_str, get}
use Rattle.oci_model.specs.Plain.{Plain}
use Rattle.oci_model.specs.Shape.{Shape}
use Rattle.oci_model.specs.Means.{Means, unless_null}
use Rattle.oci_json.specs.Engines.{ReadsAs, IsNoJson}
use Rattle.oci_layout.specs.Kinds.{is_same_type, own_type, document_shape, member_name, other_members}
use Rattle.oci_layout.specs.Claims.{claims_of}
use Rattle.oci_layout.specs.Holds.{HoldContents}
use Rattle.oci_layout.specs.declared.kind.Kind.{Kind}
use Rattle.oci_layout.specs.declared.claim.Claim.{Claim}
use Rattle.oci_layout.specs.declared.claim.Fault.{Fault}
use Rattle.oci_layout.specs.declared.claim.Fault.TheVariants.{NoJson, NoDocument, OtherType, Ambiguous, Embedded}
use Rattle.oci_layout.specs.declared.member.OtherMember.{OtherMember}

-- the schema allows the value
abbrev pub IsValid : Shape → Data → Type 0
IsValid s d = (p : Plain) × Means s d p

-- the media type that a document says itself beside the one that is said of it, where both are said
abbrev pub compared : Option (List ℕ) → Option (List ℕ) → Option Fault
compared None own = None
compared (Some said) None = None
compared (Some said) (Some own) = if is_same_type own said then None else Some OtherType

abbrev pub type_fault : Kind → Data → Option Fault
type_fault k d = compared (own_type k) (option_and_then as_str (get (codes "mediaType") d))

-- the document has the member, and it is not null
abbrev pub HasMember : OtherMember → Data → Type 0
HasMember m d = IsSome (option_and_then unless_null (get (member_name m) d))

-- the first of these members that the document has
abbrev pub IsFirstOf : List OtherMember → Data → OtherMember → Type 0
IsFirstOf [] d m = ⊥
IsFirstOf (n ∷ ns) d m = (HasMember n d × (m ≡ n)) ⊎ ((¬ HasMember n d) × IsFirstOf ns d m)

-- Clients may take the document for one of another kind, by this member. One that has both `layers` and `manifests` is an image to some clients and an index to
-- others, under one digest (CVE-2021-41190).
abbrev pub IsAmbiguous : Kind → Data → OtherMember → Type 0
IsAmbiguous k d m = IsFirstOf (other_members k) d m

abbrev pub IsUnambiguous : Kind → Data → Type 0
IsUnambiguous k d = All (λ m. ¬ HasMember m d) (other_members k)

-- that one of its descriptors holds another content than it says, or nothing
abbrev pub IsHeldAgainst : Kind → Data → Option Fault → Type 0
IsHeldAgainst k d fault = (HoldContents k d × (fault ≡ None)) ⊎ ((¬ HoldContents k d) × (fault ≡ Some Embedded))

-- the document's own media type, or else that
abbrev pub IsTypedAgainst : Option Fault → Kind → Data → Option Fault → Type 0
IsTypedAgainst (Some f) k d fault = fault ≡ Some f
IsTypedAgainst None k d fault = IsHeldAgainst k d fault

-- What stands against a document that its schema allows: that it is ambiguous, or else its own media type, or else what its descriptors hold. Being ambiguous
-- comes first, since no media type makes up for it.
abbrev pub IsAgainst : Kind → Data → Option Fault → Type 0
IsAgainst k d fault = ((m : OtherMember) × (fault ≡ Some (Ambiguous m)) × IsAmbiguous k d m) ⊎ (IsUnambiguous k d × IsTypedAgainst (type_fault k d) k d fault)

-- a value that the schema allows, with what it claims
pub record IsDocument (s : Shape) (k : Kind) (value : Data) (fault : Option Fault) (claims : List Claim) : Type 0 where
  pub valid : IsValid s value
  pub against : IsAgainst k value fault
  pub claimed : claims ≡ claims_of k value

-- nothing is claimed where there is this fault
abbrev pub IsFault : Fault → Option Fault → List Claim → Type 0
IsFault f fault claims = (fault ≡ Some f) × (claims ≡ [])

-- what is found in the value of a document
abbrev pub IsJudged : Shape → Kind → Data → Option Fault → List Claim → Type 0
IsJudged s k value fault claims = IsDocument s k value fault claims ⊎ ((¬ IsValid s value) × IsFault NoDocument fault claims)

-- what is found in its bytes
abbrev pub IsReadAs : Shape → Kind → List ℕ → Option Fault → List Claim → Type 0
IsReadAs s k bytes fault claims = ((d : Data) × ReadsAs bytes d × IsJudged s k d fault claims) ⊎ (IsNoJson bytes × IsFault NoJson fault claims)

-- of bytes that are not read, nothing is found
abbrev pub IsReadBy : Option Shape → Kind → List ℕ → Option Fault → List Claim → Type 0
IsReadBy None k bytes fault claims = (fault ≡ None) × (claims ≡ [])
IsReadBy (Some s) k bytes fault claims = IsReadAs s k bytes fault claims

abbrev pub IsRead : Kind → List ℕ → Option Fault → List Claim → Type 0
IsRead k bytes fault claims = IsReadBy (document_shape k) k bytes fault claims
