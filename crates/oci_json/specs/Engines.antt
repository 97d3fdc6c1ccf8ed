-- What bytes are read as, and what is written for a document (RFC 8259).
use Rattle.std.specs.Prelude.{◌≡◌, ◌⊎◌, ◌≤◌, IfSome, ℕ, List, Option, Some, None, IsUtf8, String, string_bytes, take}
use Rattle.std.specs.declared.alloc.Global.{Global}
use Rattle.std.specs.Fmt.{IsPlainFormatter, HasWritten}
use Rattle.std.specs.declared.fmt.Formatter.{Formatter}
use Rattle.std.specs.Io.KnownBytes.{Appends, Keeps}
use Rattle.json.specs.Layout.{pretty}
use Rattle.json.specs.Lex.{tokens}
use Rattle.serde_json.specs.Data.{Data, depth}
use Rattle.serde_json.specs.Read.{read, max_depth}
use Rattle.serde_json.specs.Written.{compact_text, IsInOrder}
use Rattle.oci_base.specs.Refused.{IsIo}
use Rattle.oci_base.specs.declared.error.OciSpecError.{OciSpecError}
use Rattle.oci_model.specs.Plain.{Plain}
use Rattle.oci_model.specs.Shape.{Shape}
use Rattle.oci_model.specs.Means.{Means}
use Rattle.oci_model.specs.Refused.{IsRefused}
use Rattle.oci_model.specs.Value.{value}
use Rattle.oci_model.specs.Writable.{Writable}

-- ---- reading

-- the bytes are a text, and JSON of this tree
abbrev pub ReadsAs : List ℕ → Data → Type 0
ReadsAs bytes d = IsUtf8 bytes × (read bytes ≡ Some d)

-- the bytes are no text, or no JSON
abbrev pub IsNoJson : List ℕ → Type 0
IsNoJson bytes = IsUtf8 bytes → read bytes ≡ None

-- the document that the bytes mean
abbrev pub MeansBytes : Shape → List ℕ → Plain → Type 0
MeansBytes s bytes p = (d : Data) × ReadsAs bytes d × Means s d p

-- the bytes are JSON that is no document
abbrev pub IsNoDocument : Shape → List ℕ → Type 0
IsNoDocument s bytes = (d : Data) × ReadsAs bytes d × IsRefused s d

-- ---- writing

-- the compact text of the tree is read as the tree, where that nests at most 127 deep
abbrev pub ReadsBack : Data → Type 0
ReadsBack d = depth d ≤ max_depth → read (compact_text d) ≡ Some d

-- the pretty text of the tree: laid out by lines and two spaces a level, with its members in order
pub record IsPretty (d : Data) (text : List ℕ) : Type 0 where
  pub layout : text ≡ pretty (tokens text)
  pub order : IsInOrder text d
  pub reads_back : depth d ≤ max_depth → read text ≡ Some d

-- it is the compact text of the tree
abbrev pub IsCompactText : Data → String Global → Type 0
IsCompactText d s = string_bytes s ≡ compact_text d

-- it is a pretty text of the tree
abbrev pub IsPrettyText : Data → String Global → Type 0
IsPrettyText d s = IsPretty d (string_bytes s)

-- known bytes grow by the compact text of the tree
abbrev pub AppendsCompact : Option (List ℕ) → Option (List ℕ) → Data → Type 0
AppendsCompact old new d = Appends old new (compact_text d)

-- known bytes grow by a pretty text of the tree
abbrev pub AppendsPretty : Option (List ℕ) → Option (List ℕ) → Data → Type 0
AppendsPretty old new d = (text : List ℕ) × IsPretty d text × Appends old new text

-- known bytes grow by a beginning of bs
abbrev pub AppendsSome : Option (List ℕ) → Option (List ℕ) → List ℕ → Type 0
AppendsSome old new bs = (n : ℕ) × Appends old new (take n bs)

-- after `Io` they grew by a beginning of the compact text
abbrev pub BeginsCompact : Option (List ℕ) → Option (List ℕ) → Data → OciSpecError → Type 0
BeginsCompact old new d e = IsIo e → AppendsSome old new (compact_text d)

-- after `Io` they grew by a beginning of a pretty text
abbrev pub BeginsPretty : Option (List ℕ) → Option (List ℕ) → Data → OciSpecError → Type 0
BeginsPretty old new d e = IsIo e → (text : List ℕ) × IsPretty d text × AppendsSome old new text

-- after any other refusal they are as they were
abbrev pub KeepsUnlessIo : Option (List ℕ) → Option (List ℕ) → OciSpecError → Type 0
KeepsUnlessIo old new e = ¬ IsIo e → Keeps old new

-- where f formats as `{}` does, it became g by taking a pretty text of the tree
abbrev pub DisplaysPretty : {W : Type 0} → (W → List ℕ → W → Type 0) → Formatter W → Data → Formatter W → Type 0
DisplaysPretty took f d g = IsPlainFormatter f → (text : List ℕ) × IsPretty d text × HasWritten took f text g

-- ---- from bytes to bytes

-- the text of a document is written, which the bytes mean where they are known
abbrev pub WritesDocument : Shape → Option (List ℕ) → (List ℕ → Type 0) → Type 0
WritesDocument s input Writes = (p : Plain) × IfSome input (λ bytes. MeansBytes s bytes p) × Writes (compact_text (value s p))

-- that text is read as the document's value again
abbrev pub ReadsBackDocument : Shape → Option (List ℕ) → Type 0
ReadsBackDocument s input = (p : Plain) × IfSome input (λ bytes. MeansBytes s bytes p) × ReadsBack (value s p)

-- the bytes are JSON that is no document, or that of one which is not writable
abbrev pub IsNotNormalized : Shape → List ℕ → Type 0
IsNotNormalized s bytes = IsNoDocument s bytes ⊎ ((p : Plain) × MeansBytes s bytes p × ¬ Writable s p)
