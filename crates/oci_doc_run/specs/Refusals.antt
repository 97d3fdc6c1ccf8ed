-- What the program tells where it refuses, and what that says of the words, the input and the output.
use Rattle.std.specs.Prelude.{◌≡◌, ◌⊎◌, ℕ, List, [], ◌∷◌, ◌++◌, codes, string_bytes, Option, Some, IfSome, ⊤}
use Rattle.std.specs.Io.KnownBytes.{Keeps}
use Rattle.oci_base.specs.Digest.{digest_refusal}
use Rattle.oci_base.specs.declared.error.OciSpecError.{OciSpecError}
use Rattle.oci_base.specs.declared.error.OciSpecError.TheVariants as error
use Rattle.oci_base.specs.declared.error.SerDeError.{SerDeError}
use Rattle.oci_base.specs.declared.error.SerDeError.TheVariants as serde
use Rattle.oci_shapes.specs.Descriptor.{descriptor}
use Rattle.oci_model.specs.Shape.{Shape}
use Rattle.oci_json.specs.Engines.{AppendsSome, WritesDocument, IsNoJson, IsNoDocument, IsNotNormalized}
use Rattle.oci_reference.specs.declared.error.ParseError.{ParseError}
use Rattle.oci_reference.specs.declared.error.ParseError.TheVariants as parse
use Rattle.oci_reference.specs.Accepted as reference_texts
use Rattle.oci_schema.specs.Normalizes.{WritesPretty}
use Rattle.oci_doc_run.specs.declared.refusal.Refusal.{Refusal}
use Rattle.oci_doc_run.specs.declared.refusal.Refusal.TheVariants.{Other, Io, Json, Schema, Builder, Memory, Reference}
use Rattle.oci_doc_run.specs.Commands.{Asked, norm, pretty, reference, digest, pin}
use Rattle.oci_schemas.specs.Kinds.{shape_of}
use Rattle.oci_doc_run.specs.Outputs.{WritesReference, WritesDigest, WritesPinned}

-- ---- the line

-- the name of a reason why a text is no reference
abbrev pub parse_name : ParseError → List ℕ
parse_name parse.DigestInvalidFormat = codes "DigestInvalidFormat"
parse_name parse.DigestInvalidLength = codes "DigestInvalidLength"
parse_name parse.DigestUnsupported = codes "DigestUnsupported"
parse_name parse.NameContainsUppercase = codes "NameContainsUppercase"
parse_name parse.NameEmpty = codes "NameEmpty"
parse_name parse.NameTooLong = codes "NameTooLong"
parse_name parse.ReferenceInvalidFormat = codes "ReferenceInvalidFormat"
parse_name parse.TagInvalidFormat = codes "TagInvalidFormat"
parse_name parse.Memory = codes "Memory"

-- what the line begins with
abbrev pub mark : Refusal → List ℕ
mark (Other text) = codes "refused: Other: "
mark _ = codes "refused: "

-- what the line tells
abbrev pub reason : Refusal → List ℕ
reason (Other text) = string_bytes text
reason Io = codes "Io"
reason Json = codes "Json"
reason Schema = codes "Schema"
reason Builder = codes "Builder"
reason Memory = codes "Memory"
reason (Reference e) = parse_name e

-- the line of a refusal
abbrev pub line_of : Refusal → List ℕ
line_of r = mark r ++ (reason r ++ 10 ∷ [])

-- the refusal for an error
abbrev pub serde_refusal : SerDeError → Refusal
serde_refusal (serde.Json fault) = Json
serde_refusal (serde.Schema fault) = Schema

abbrev pub refusal_of : OciSpecError → Refusal
refusal_of (error.Other text) = Other text
refusal_of (error.Io fault) = Io
refusal_of (error.SerDe fault) = serde_refusal fault
refusal_of (error.Builder fault) = Builder
refusal_of error.Memory = Memory

-- ---- what it says

-- of the output: only after a fault of a reader or writer can a beginning of it be written
abbrev pub Begins : ((List ℕ → Type 0) → Type 0) → Option (List ℕ) → Option (List ℕ) → Refusal → Type 0
Begins Output old new Io = Keeps old new ⊎ Output (AppendsSome old new)
Begins Output old new _ = Keeps old new

-- of the bytes of a document
abbrev pub HoldsOfDocument : Shape → Option (List ℕ) → Refusal → Type 0
HoldsOfDocument s input Io = ⊤
HoldsOfDocument s input Json = IfSome input IsNoJson
HoldsOfDocument s input Schema = IfSome input (IsNotNormalized s)
HoldsOfDocument s input Memory = ⊤
HoldsOfDocument s input _ = ⊥

-- of the text of a reference
abbrev pub HoldsOfReference : List ℕ → Refusal → Type 0
HoldsOfReference text (Reference e) = reference_texts.Tells text e
HoldsOfReference text Io = ⊤
HoldsOfReference text Memory = ⊤
HoldsOfReference text _ = ⊥

-- of the text of a digest
abbrev pub HoldsOfDigest : List ℕ → Refusal → Type 0
HoldsOfDigest text (Other told) = digest_refusal text ≡ Some (string_bytes told)
HoldsOfDigest text Io = ⊤
HoldsOfDigest text Memory = ⊤
HoldsOfDigest text _ = ⊥

-- of the text of a reference and the bytes of a descriptor
abbrev pub HoldsOfPin : List ℕ → Option (List ℕ) → Refusal → Type 0
HoldsOfPin text input (Reference e) = reference_texts.Tells text e
HoldsOfPin text input Io = ⊤
HoldsOfPin text input Json = IfSome input IsNoJson
HoldsOfPin text input Schema = IfSome input (IsNoDocument descriptor)
HoldsOfPin text input Memory = ⊤
HoldsOfPin text input _ = ⊥

-- a refusal of each command
abbrev pub TellsOfNormal : Shape → Option (List ℕ) → Option (List ℕ) → Option (List ℕ) → Refusal → Type 0
TellsOfNormal s input old new r = HoldsOfDocument s input r × Begins (WritesDocument s input) old new r

abbrev pub TellsOfPretty : Shape → Option (List ℕ) → Option (List ℕ) → Option (List ℕ) → Refusal → Type 0
TellsOfPretty s input old new r = HoldsOfDocument s input r × Begins (WritesPretty s input) old new r

abbrev pub TellsOfReference : List ℕ → Option (List ℕ) → Option (List ℕ) → Refusal → Type 0
TellsOfReference text old new r = HoldsOfReference text r × Begins (WritesReference text) old new r

abbrev pub TellsOfDigest : List ℕ → Option (List ℕ) → Option (List ℕ) → Refusal → Type 0
TellsOfDigest text old new r = HoldsOfDigest text r × Begins (WritesDigest text) old new r

abbrev pub TellsOfPin : List ℕ → Option (List ℕ) → Option (List ℕ) → Option (List ℕ) → Refusal → Type 0
TellsOfPin text input old new r = HoldsOfPin text input r × Begins (WritesPinned text input) old new r

abbrev pub Tells : Asked → Option (List ℕ) → Option (List ℕ) → Option (List ℕ) → Refusal → Type 0
Tells (norm kind) input old new r = TellsOfNormal (shape_of kind) input old new r
Tells (pretty kind) input old new r = TellsOfPretty (shape_of kind) input old new r
Tells (reference text) input old new r = TellsOfReference text old new r
Tells (digest text) input old new r = TellsOfDigest text old new r
Tells (pin text) input old new r = TellsOfPin text input old new r
