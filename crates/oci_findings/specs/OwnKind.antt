-- What a document says of its own kind.
use Rattle.std.specs.Prelude.{◌≡◌, Bool, true, false, Some, IfSome}
use Rattle.serde_json.specs.Data.{Data}
use Rattle.oci_schemas.specs.declared.kind.Kind.{Kind}
use Rattle.oci_schemas.specs.declared.kind.Kind.TheVariants.{Manifest, Index, Artifact}
use Rattle.oci_findings.specs.FoundKind.{of_media_type, own_media_type}

-- the media type that the document says for itself, if it says one, is of this kind
abbrev pub SaysKind : Kind → Data → Type 0
SaysKind kind d = IfSome (own_media_type d) (λ t. of_media_type t ≡ Some kind)

-- kinds whose documents have a member for their own media type
abbrev pub has_media_type : Kind → Bool
has_media_type Manifest = true
has_media_type Index = true
has_media_type Artifact = true
has_media_type _ = false
