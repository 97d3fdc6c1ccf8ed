-- What a command has done, by its exit status.
use Rattle.std.specs.Prelude.{◌≡◌, ◌⊎◌, ◌<◌, ℕ, List, length, true, false, Option, Some, None, IsSome, IfSome, ⊤}
use Rattle.std.specs.List.{All, HoldsAt}
use Rattle.std.specs.Borrow.{Bor}
use Rattle.std.specs.Io.KnownBytes.{Appends}
use Rattle.oci_doc_run.specs.Outputs.{WritesPinned}
use Rattle.oci_schemas.specs.declared.kind.Kind.{Kind}
use Rattle.oci_rules.specs.Rules.{Rule}
use Rattle.oci_commands.specs.declared.asked.Asked.{Asked}
use Rattle.oci_commands.specs.declared.asked.Asked.TheVariants.{Check, Format, Compare, Reference, Digest, FileDigests, CheckDigests, Pin, PinTo, Tree, Rules, Explain, Schema, Kinds}
use Rattle.oci_findings.specs.Checks.{HasNoKind, IsRight, IsWrong}
use Rattle.oci_commands.specs.Books.{is_rule, IsUnknown, WroteRule, WroteRules}
use Rattle.oci_commands.specs.Compared.{HoldSame, HoldUnequal}
use Rattle.oci_commands.specs.Kinds.{IsKindLine}
use Rattle.oci_commands.specs.Formats.{Formats, FormatsTo, HoldsPut, IsUnformatted, LosesNothing}
use Rattle.oci_commands.specs.Pins.{HasNoTarget, PinsTo}
use Rattle.oci_commands.specs.Refused.{IsNoReference, IsNoDigest, IsNoDescriptor, HasNone}
use Rattle.oci_commands.specs.Schemas.{WroteSchema}
use Rattle.oci_commands.specs.Sums.{AllMatch, OneDiffers}
use Rattle.oci_commands.specs.Texts.{IsShownReference, IsShownDigest, IsFileLine, Joins}
use Rattle.oci_commands.specs.Trees.{HasNoTree, WroteAlone}

-- the exit statuses of a command: done, the input is wrong, something could not be read or written
abbrev pub IsStatus : ℕ → Type 0
IsStatus status = (status ≡ 0) ⊎ ((status ≡ 1) ⊎ (status ≡ 3))

-- what is written of each item was appended
abbrev pub AppendsEach : {A : Type 0} → (A → List ℕ → Type 0) → List A → Option (List ℕ) → Option (List ℕ) → Type 0
AppendsEach Is items old new = (text : List ℕ) × Joins Is items text × Appends old new text

-- after status 0, where `books` are the rules of the specifications by kinds, `holds` are the bytes of files, and `old` and `new` is what was written before and after, where they are known
abbrev pub IsDone : (Kind → List Rule) → (List ℕ → Option (List ℕ)) → Option (List ℕ) → Option (List ℕ) → Asked → Type 0
-- nothing is wrong with any file
IsDone books holds old new (Check a) = All (λ f. IfSome (holds f.now) (IsRight books a f.now)) a.files.now
-- the file is canonical, or its canonical form was written; into a file only if no member is left out of it, unknown or before another of its name, or that was asked for
IsDone books holds old new (Format a) =
    (a.check ≡ true → IfSome (holds a.file.now) (λ bytes. Formats a (Some bytes) (λ text. text ≡ bytes)))
    × (a.check ≡ false → a.output ≡ None → Formats a (holds a.file.now) (Appends old new))
    × (a.check ≡ false → IsSome a.output → a.drop_unknown ≡ false → IfSome (holds a.file.now) (LosesNothing a))
-- the two files hold the same document
IsDone books holds old new (Compare a) = HoldSame a.kind a.before.now (holds a.before.now) a.after.now (holds a.after.now)
-- each text is a reference, or a digest, and its parts were written
IsDone books holds old new (Reference style texts) = AppendsEach (λ t. IsShownReference style t.now) texts.now old new
IsDone books holds old new (Digest style texts) = AppendsEach (λ t. IsShownDigest style t.now) texts.now old new
-- the digests of the files were written
IsDone books holds old new (FileDigests algorithm files) = AppendsEach (λ f. IsFileLine algorithm (holds f.now) f.now) files.now old new
-- the files that the lists name have the digests that stand there
IsDone books holds old new (CheckDigests algorithm files) = All (λ f. IfSome (holds f.now) (AllMatch holds algorithm)) files.now
-- the reference with the digest of the descriptor was written
IsDone books holds old new (Pin text file) = WritesPinned text.now (holds file.now) (Appends old new)
-- or with the digest that was asked for
IsDone books holds old new (PinTo text target) = PinsTo holds text.now target old new
-- the lines of the document's descriptors were written
IsDone books holds old new (Tree file) = IfSome (holds file.now) (λ bytes. WroteAlone file.now bytes old new)
-- the rules of all kinds, or of one, were written
IsDone books holds old new (Rules style name) = WroteRules books style name old new
-- there is a rule of this name, and what it asks was written
IsDone books holds old new (Explain name) = WroteRule books name.now old new
-- the table of the kind was written, or its JSON Schema
IsDone books holds old new (Schema outline kind) = WroteSchema outline kind old new
-- each document is of one kind, and its line was written
IsDone books holds old new (Kinds style files) = AppendsEach (λ f. IsKindLine style (holds f.now) f.now) files.now old new

-- after status 0, where `before` and `after` are the bytes of files before and after: what `fmt` was to write into holds the canonical form, which is of the kind of the document
abbrev pub IsPut : (List ℕ → Option (List ℕ)) → (List ℕ → Option (List ℕ)) → Asked → Type 0
IsPut before after (Format a) = a.check ≡ false → HoldsPut after a.output (FormatsTo a (before a.file.now))
IsPut before after _ = ⊤

-- after status 1
abbrev pub IsRejected : (Kind → List Rule) → (List ℕ → Option (List ℕ)) → Asked → Type 0
-- something is wrong with one of the files
IsRejected books holds (Check a) = (i : ℕ) × (i < length a.files.now) × HoldsAt (λ f. IfSome (holds f.now) (IsWrong books a f.now)) a.files.now i
-- the file has no canonical form, or is not that
IsRejected books holds (Format a) = IfSome (holds a.file.now) (IsUnformatted a)
-- one of the files holds no document of the kind, or the two hold other ones, or of two kinds
IsRejected books holds (Compare a) = HoldUnequal a.kind a.before.now (holds a.before.now) a.after.now (holds a.after.now)
-- one of the texts is no reference, or no digest
IsRejected books holds (Reference style texts) = HasNone IsNoReference texts.now
IsRejected books holds (Digest style texts) = HasNone IsNoDigest texts.now
IsRejected books holds (FileDigests algorithm files) = ⊥
-- one of the lists has a line that differs, or is none
IsRejected books holds (CheckDigests algorithm files) = (i : ℕ) × (i < length files.now) × HoldsAt (λ f. IfSome (holds f.now) (OneDiffers holds algorithm)) files.now i
-- the text is no reference, or the file holds no descriptor
IsRejected books holds (Pin text file) = IsNoReference text.now ⊎ IfSome (holds file.now) IsNoDescriptor
-- one of the documents is no JSON, or of no kind, or possibly of several
IsRejected books holds (Kinds style files) = (i : ℕ) × (i < length files.now) × HoldsAt (λ f. IfSome (holds f.now) (HasNoKind None f.now)) files.now i
IsRejected books holds (PinTo text target) = IsNoReference text.now ⊎ HasNoTarget holds target
-- the file holds no document of a kind that has a tree
IsRejected books holds (Tree file) = IfSome (holds file.now) (HasNoTree file.now)
-- the name is that of no kind of documents and of no rule, or of no rule
IsRejected books holds (Rules style name) = IsUnknown books name
IsRejected books holds (Explain name) = is_rule books name.now ≡ false
IsRejected books holds _ = ⊤

-- the command writes neither output nor file
abbrev pub IsSilent : Asked → Type 0
IsSilent (Format a) = a.check ≡ true
IsSilent _ = ⊥
