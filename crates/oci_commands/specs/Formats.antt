-- What `fmt` writes, and what it does not accept.
use Rattle.std.specs.Prelude.{◌≡◌, ◌⊎◌, ⊤, ℕ, List, Bool, true, false, Option, Some, IsSome, IfSome}
use Rattle.std.specs.Borrow.{Bor}
use Rattle.serde_json.specs.Data.{Data}
use Rattle.oci_model.specs.Plain.{Plain}
use Rattle.oci_model.specs.Value.{value as json_of}
use Rattle.oci_model.specs.Writable.{Writable}
use Rattle.oci_json.specs.Engines.{MeansBytes, ReadsAs, WritesDocument}
use Rattle.oci_schema.specs.Normalizes.{WritesPretty}
use Rattle.oci_schemas.specs.declared.kind.Kind.{Kind}
use Rattle.oci_schemas.specs.Kinds.{shape_of}
use Rattle.oci_findings.specs.Checks.{AllListed, HasNamesOnce, IsAllowed, IsKindIn}
use Rattle.oci_base.specs.declared.error.OciSpecError.{OciSpecError}
use Rattle.oci_base.specs.declared.error.OciSpecError.TheVariants.{SerDe}
use Rattle.oci_commands.specs.declared.asked.Format.{Format}
use Rattle.oci_commands.specs.Kept.{IsTextOf, kept}

-- the canonical text of the document of this kind in the input is written, compact or indented
abbrev pub FormatsAs : Kind → Bool → Option (List ℕ) → (List ℕ → Type 0) → Type 0
FormatsAs kind false input Writes = WritesDocument (shape_of kind) input Writes
FormatsAs kind true input Writes = WritesPretty (shape_of kind) input Writes

-- the schema of the kind lists all members of the value in the bytes
abbrev pub HasNoUnknown : Kind → List ℕ → Type 0
HasNoUnknown kind bytes = (d : Data) × ReadsAs bytes d × AllListed kind d

-- the canonical form of the document, in which each member that the schema does not list stands as it was read; and a text of it
abbrev pub IsKeptValue : Kind → List ℕ → Data → Type 0
IsKeptValue kind bytes v = (d : Data) × (p : Plain) × ReadsAs bytes d × MeansBytes (shape_of kind) bytes p × (v ≡ kept (shape_of kind) d (json_of (shape_of kind) p))

abbrev pub IsKeptText : Kind → Bool → List ℕ → List ℕ → Type 0
IsKeptText kind pretty bytes text = (v : Data) × IsKeptValue kind bytes v × IsTextOf pretty v text

-- there are such members, and the text is written
abbrev pub WritesKept : Kind → Bool → Option (List ℕ) → (List ℕ → Type 0) → Type 0
WritesKept kind pretty input Writes = (text : List ℕ) × IfSome input (λ bytes. IsKeptText kind pretty bytes text × ¬ HasNoUnknown kind bytes) × Writes text

-- where unknown members are to be kept (first) and there are some, such a text is written, and else the canonical one
abbrev pub FormatsBy : Bool → Kind → Bool → Option (List ℕ) → (List ℕ → Type 0) → Type 0
FormatsBy false kind pretty input Writes = FormatsAs kind pretty input Writes
FormatsBy true kind pretty input Writes = (IfSome input (HasNoUnknown kind) × FormatsAs kind pretty input Writes) ⊎ WritesKept kind pretty input Writes

-- the same of the file that is asked for, whose kind is the one that is asked for, or the one that is found
abbrev pub Formats : Format → Option (List ℕ) → (List ℕ → Type 0) → Type 0
Formats a input Writes = (kind : Kind) × IsKindIn a.kind a.file.now input kind × FormatsBy a.keep_unknown kind a.pretty input Writes

-- what is written to a file: such a text, which is of that kind too
abbrev pub FormatsTo : Format → Option (List ℕ) → List ℕ → Type 0
FormatsTo a input text =
    (kind : Kind) × IsKindIn a.kind a.file.now input kind × IsKindIn a.kind a.file.now (Some text) kind × FormatsBy a.keep_unknown kind a.pretty input (λ t. t ≡ text)

-- what holds of the bytes of the output, if there is one and its bytes are known
abbrev pub HoldsPut : (List ℕ → Option (List ℕ)) → Option (Bor (List ℕ)) → (List ℕ → Type 0) → Type 0
HoldsPut holds output Is = IfSome output (λ name. IfSome (holds name.now) Is)

-- the bytes hold no document of the kind that has a canonical form
abbrev pub HasNoForm : Kind → List ℕ → Type 0
HasNoForm kind bytes = (p : Plain) → MeansBytes (shape_of kind) bytes p → ¬ Writable (shape_of kind) p

-- what was read is no JSON, or no such document
abbrev pub IsSerDe : OciSpecError → Type 0
IsSerDe (SerDe e) = ⊤
IsSerDe _ = ⊥

-- they are not the compact text of such a document
abbrev pub IsNotCompact : Kind → List ℕ → Type 0
IsNotCompact kind bytes = ¬ FormatsAs kind false (Some bytes) (λ text. text ≡ bytes)

-- no member of the value in the bytes is left out of what is written: the schema lists all, unless unknown ones are kept (first), and no name stands twice
abbrev pub AllWritten : Bool → Kind → Data → List ℕ → Type 0
AllWritten keep kind d bytes = (keep ≡ false → AllListed kind d) × HasNamesOnce bytes

abbrev pub KeepsAll : Bool → Kind → List ℕ → Type 0
KeepsAll keep kind bytes = (d : Data) × ReadsAs bytes d × AllWritten keep kind d bytes

-- the same of the kind that is asked for, or of the one that is found
abbrev pub LosesNothing : Format → List ℕ → Type 0
LosesNothing a bytes = (kind : Kind) × IsKindIn a.kind a.file.now (Some bytes) kind × KeepsAll a.keep_unknown kind bytes

-- a file was to be written, and members were to be left out of it unasked
pub record WouldLose (kind : Kind) (a : Format) (bytes : List ℕ) : Type 0 where
  pub file : IsSome a.output
  pub unasked : a.drop_unknown ≡ false
  pub value : Data
  pub reads : ReadsAs bytes value
  pub lost : ¬ AllWritten a.keep_unknown kind value bytes

-- a file was to be written, and what was to be written is found to be of another kind, or of none
pub record WouldChangeKind (kind : Kind) (a : Format) (text : List ℕ) : Type 0 where
  pub file : IsSome a.output
  pub other : ¬ IsKindIn a.kind a.file.now (Some text) kind

-- they hold none, or were to be its canonical form and are not; of indented text, and where unknown members are kept, nothing more is said
abbrev pub IsMisformed : Kind → Format → List ℕ → Type 0
IsMisformed kind a bytes = HasNoForm kind bytes ⊎ ((a.check ≡ true) × (a.pretty ≡ false → a.keep_unknown ≡ false → IsNotCompact kind bytes))

-- or members would be lost, or another kind be found
abbrev pub IsUnformattedAs : Kind → Format → List ℕ → Type 0
IsUnformattedAs kind a bytes =
    IsMisformed kind a bytes ⊎ (WouldLose kind a bytes ⊎ FormatsBy a.keep_unknown kind a.pretty (Some bytes) (WouldChangeKind kind a))

-- the file holds no document of the kind that is asked for, or of one that is found, or is not accepted as one of that kind
abbrev pub IsUnformatted : Format → List ℕ → Type 0
IsUnformatted a bytes = ¬ IsAllowed a.kind a.file.now bytes ⊎ ((kind : Kind) × IsKindIn a.kind a.file.now (Some bytes) kind × IsUnformattedAs kind a bytes)
