-- Why a command is refused its text or its input.
use Rattle.std.specs.Prelude.{◌≡◌, ◌⊎◌, ◌<◌, ℕ, List, length, Option, Some, IfSome, ⊤}
use Rattle.std.specs.List.{HoldsAt}
use Rattle.std.specs.Borrow.{Bor}
use Rattle.oci_doc_run.specs.Commands.{Asked, norm, pretty, reference, digest, pin}
use Rattle.oci_doc_run.specs.declared.refusal.Refusal.{Refusal}
use Rattle.oci_doc_run.specs.declared.refusal.Refusal.TheVariants as refusal
use Rattle.oci_json.specs.Engines.{IsNoJson, IsNoDocument, IsNotNormalized}
use Rattle.oci_schemas.specs.Kinds.{shape_of}
use Rattle.oci_reference.specs.Accepted.{Refused}
use Rattle.oci_reference.specs.declared.error.ParseError.{ParseError}
use Rattle.oci_reference.specs.declared.error.ParseError.TheVariants as parse
use Rattle.oci_shapes.specs.Descriptor.{descriptor}
use Rattle.oci_base.specs.Digest.{digest_refusal}

-- the text is no reference within the limits, for this reason
abbrev pub IsNoReference : List ℕ → Type 0
IsNoReference text = (error : ParseError) × Refused text error

-- the text is no digest, and this is what is said of it
abbrev pub IsNoDigest : List ℕ → Type 0
IsNoDigest text = (said : List ℕ) × (digest_refusal text ≡ Some said)

-- the bytes are no JSON, or no descriptor
abbrev pub IsNoDescriptor : List ℕ → Type 0
IsNoDescriptor bytes = IsNoJson bytes ⊎ IsNoDocument descriptor bytes

-- one of the texts is none
abbrev pub HasNone : (List ℕ → Type 0) → List (Bor (List ℕ)) → Type 0
HasNone IsNone texts = (i : ℕ) × (i < length texts) × HoldsAt (λ t. IsNone t.now) texts i

-- the input is at fault, and neither the system nor its memory
abbrev pub IsFault : Refusal → Type 0
IsFault refusal.Io = ⊥
IsFault refusal.Memory = ⊥
IsFault (refusal.Reference parse.Memory) = ⊥
IsFault _ = ⊤

-- what is at fault where a command is refused, where its input is known
abbrev pub IsAtFault : Asked → Option (List ℕ) → Type 0
IsAtFault (norm kind) input = IfSome input IsNoJson ⊎ IfSome input (IsNotNormalized (shape_of kind))
IsAtFault (pretty kind) input = IfSome input IsNoJson ⊎ IfSome input (IsNotNormalized (shape_of kind))
IsAtFault (reference text) input = IsNoReference text
IsAtFault (digest text) input = IsNoDigest text
IsAtFault (pin text) input = IsNoReference text ⊎ IfSome input IsNoDescriptor
