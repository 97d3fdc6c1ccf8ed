-- Image layouts as trees: what a line says of a content, what is written, and what the status says.
use Rattle.std.specs.Prelude.{◌≡◌, ◌⊎◌, ⊤, ℕ, List, [], ◌∷◌, ◌++◌, codes, Bool, true, false, not, ◌&&◌, Option, Some, None, is_some, option_and_then, if◌then◌else◌, IfSome, IsTrue, string_bytes}
use Rattle.std.specs.List.{All}
use Rattle.std.specs.Io.KnownBytes.{Appends}
use Rattle.serde_json.specs.Data.{Data}
use Rattle.oci_base.specs.Escaped.{escaped}
use Rattle.oci_json.specs.Engines.{ReadsAs}
use Rattle.oci_findings.specs.Checks.{IsAllowed, IsAsked}
use Rattle.oci_findings.specs.FoundKind.{kind_for}
use Rattle.oci_findings.specs.Outlines.{Entry, child_entry, entries_of, trunk, row_lines, is_whole}
use Rattle.oci_findings.specs.declared.outline.Child.{Child}
use Rattle.oci_findings.specs.declared.outline.Mark.{Mark}
use Rattle.oci_findings.specs.declared.outline.Mark.TheVariants as mark
use Rattle.oci_findings.specs.declared.outline.Row.{Row}
use Rattle.oci_layout.specs.Documents.{IsRead}
use Rattle.oci_layout.specs.Kinds.{document_shape}
use Rattle.oci_layout.specs.Looks.{Contents, is_subject, is_unread, may_miss}
use Rattle.oci_layout.specs.Sound.{IsLarger}
use Rattle.oci_layout.specs.declared.claim.Claim.{Claim}
use Rattle.oci_layout.specs.declared.claim.Fault.{Fault}
use Rattle.oci_layout.specs.declared.claim.Fault.TheVariants.{Embedded}
use Rattle.oci_layout.specs.declared.kind.Kind.{Kind as ContentKind}
use Rattle.oci_layout.specs.declared.kind.Kind.TheVariants as content
use Rattle.oci_schemas.specs.declared.kind.Kind.{Kind}
use Rattle.oci_schemas.specs.declared.kind.Kind.TheVariants as kind

-- ---- what a line says

-- a document, which is read; a subject is shown where it is claimed as a manifest
abbrev pub is_opened : Claim → Bool
is_opened c = not (is_subject c.role) && is_some (document_shape c.kind)

-- nothing stands against the document, or alone what its descriptors hold themselves
abbrev pub IsOpenedAs : ContentKind → List ℕ → Type 0
IsOpenedAs k bytes = (claims : List Claim) × (IsRead k bytes None claims ⊎ IsRead k bytes (Some Embedded) claims)

-- the content is there, and if it is read, it is such a document
abbrev pub IsThere : (List ℕ → Option (List ℕ)) → Claim → Type 0
IsThere contents c = (bytes : List ℕ) × (contents c.digest ≡ Some bytes) × (is_opened c ≡ true → IsOpenedAs c.kind bytes)

-- this stands against the document that is there
abbrev pub IsFaulty : (List ℕ → Option (List ℕ)) → Claim → Fault → Type 0
IsFaulty contents c f = (bytes : List ℕ) × (contents c.digest ≡ Some bytes) × ((claims : List Claim) × IsRead c.kind bytes (Some f) claims)

-- what a mark says of what a claim is of, where contents are known; `steady` says that reads do not fail
abbrev pub IsSaid : ℕ → Bool → (List ℕ → Option (List ℕ)) → Claim → Mark → Type 0
IsSaid limit steady contents c mark.Plain = IsThere contents c
IsSaid limit steady contents c mark.Above = IsThere contents c
IsSaid limit steady contents c mark.Deep = IsThere contents c
IsSaid limit steady contents c mark.Unread = IsThere contents c × IsTrue (is_unread c)
IsSaid limit steady contents c mark.Absent = (contents c.digest ≡ None) × IsTrue (may_miss c)
IsSaid limit steady contents c mark.Missing = (contents c.digest ≡ None) × (may_miss c ≡ false)
IsSaid limit steady contents c mark.Unreadable = steady ≡ false
IsSaid limit steady contents c mark.TooLarge = IsLarger limit (contents c.digest)
IsSaid limit steady contents c (mark.Faulty f) = IsFaulty contents c f

abbrev pub IsSaidBy : ℕ → Bool → Contents → Claim → Mark → Type 0
IsSaidBy limit steady None c m = ⊤
IsSaidBy limit steady (Some contents) c m = IsSaid limit steady contents c m

-- each line says what is there
abbrev pub AreSaid : ℕ → Bool → Contents → List Row → Type 0
AreSaid limit steady contents rows = All (λ r. IsSaidBy limit steady contents r.claim r.mark) rows

-- ---- which lines there are

-- the line of a descriptor behind what stands before its level; where the descriptor does not say the type of an artifact, it may be that of its document
pub record IsLineOf (indent : List ℕ) (e : Entry) (r : Row) : Type 0 where
  pub before : string_bytes r.before ≡ indent
  pub claim : r.claim ≡ e.claim
  pub label : string_bytes r.label ≡ e.label
  pub artifact : (e.artifact ≡ []) ⊎ (string_bytes r.artifact ≡ e.artifact)

-- A line for each descriptor, in order, and behind it the lines of those below it, further in. `Below` says which descriptors are below a line.
pub data AreTrees (Below : Row → List Entry → Type 0) : List ℕ → List Entry → List Row → Type 0 where
  none : (before : List ℕ) → AreTrees Below before [] []
  more : {before : List ℕ} {es : List Entry} {rows inside : List Row} {inner : List Entry} (e : Entry) (r : Row)
      → AreTrees Below before es rows → IsLineOf before e r → Below r inner → AreTrees Below (before ++ trunk r.is_last) inner inside
      → AreTrees Below before (es ++ e ∷ []) (rows ++ r ∷ inside)

-- a kind of documents that have descriptors
abbrev pub has_entries : ContentKind → Bool
has_entries content.Config = false
has_entries content.DockerConfig = false
has_entries content.Empty = false
has_entries content.Opaque = false
has_entries _ = true

-- a document is opened where it is marked with nothing
abbrev pub opens : Claim → Mark → Bool
opens c mark.Plain = is_opened c && has_entries c.kind
opens c _ = false

-- the descriptors in the document
abbrev pub AreEntriesIn : (List ℕ → Option (List ℕ)) → Claim → List Entry → Type 0
AreEntriesIn contents c inner = (bytes : List ℕ) × (contents c.digest ≡ Some bytes) × ((d : Data) × ReadsAs bytes d × (inner ≡ entries_of c.kind d))

abbrev pub IsBelowBy : Bool → Contents → Claim → List Entry → Type 0
IsBelowBy false contents c inner = inner ≡ []
IsBelowBy true contents c inner = IfSome contents (λ k. AreEntriesIn k c inner)

-- these are below the line of a claim with a mark: the descriptors in its document, where it is opened, or none
abbrev pub IsBelow : Contents → Claim → Mark → List Entry → Type 0
IsBelow contents c m inner = IsBelowBy (opens c m) contents c inner

abbrev pub AreTreesIn : Contents → List ℕ → List Entry → List Row → Type 0
AreTreesIn contents before es rows = AreTrees (λ r inner. IsBelow contents r.claim r.mark inner) before es rows

-- the lines of the descriptors in an index
abbrev pub AreIndexTrees : Contents → List ℕ → List Row → Type 0
AreIndexTrees contents bytes rows = (d : Data) × ReadsAs bytes d × AreTreesIn contents [] (entries_of content.Index d) rows

-- the line of each descriptor alone, with no mark
abbrev pub AreAlone : List Entry → List Row → Type 0
AreAlone es rows = AreTrees (λ r inner. (r.mark ≡ mark.Plain) × (inner ≡ [])) [] es rows

-- ---- the steps in which lines are made

-- what is missing is marked by whether it may be
abbrev pub missing_mark : Claim → Mark
missing_mark c = if may_miss c then mark.Absent else mark.Missing

-- two claims are of one document, which is read
abbrev pub IsSameDocument : Claim → Claim → Type 0
IsSameDocument c d = IsTrue (is_opened c) × (c.digest ≡ d.digest) × (c.kind ≡ d.kind)

-- what a mark says of a document, says this one where it is claimed again
abbrev pub IsAgain : Claim → Mark → Mark → Type 0
IsAgain c mark.Plain m = (m ≡ mark.Plain) ⊎ (m ≡ mark.Above)
IsAgain c mark.Above m = m ≡ mark.Above
IsAgain c mark.Deep m = m ≡ mark.Deep
IsAgain c mark.Absent m = m ≡ missing_mark c
IsAgain c mark.Missing m = m ≡ missing_mark c
IsAgain c mark.Unreadable m = m ≡ mark.Unreadable
IsAgain c mark.TooLarge m = m ≡ mark.TooLarge
IsAgain c (mark.Faulty f) m = m ≡ mark.Faulty f
IsAgain c mark.Unread m = ⊥

-- what a mark says of the bytes of a document
abbrev pub IsFoundIn : ContentKind → List ℕ → Mark → Type 0
IsFoundIn k bytes mark.Plain = IsOpenedAs k bytes
IsFoundIn k bytes mark.Deep = IsOpenedAs k bytes
IsFoundIn k bytes (mark.Faulty f) = (claims : List Claim) × IsRead k bytes (Some f) claims
IsFoundIn k bytes _ = ⊥

-- the descriptors below a document with a mark, by its bytes
abbrev pub IsWithin : ContentKind → List ℕ → Mark → List Entry → Type 0
IsWithin k bytes mark.Plain inner = (d : Data) × ReadsAs bytes d × (inner ≡ entries_of k d)
IsWithin k bytes _ inner = inner ≡ []

-- the line of a descriptor is added, with a mark
pub record AddsRow (before : List ℕ) (child : Child) (m : Mark) (old new : List Row) : Type 0 where
  pub row : Row
  pub line : IsLineOf before (child_entry child) row
  pub last : row.is_last ≡ child.is_last
  pub marked : row.mark ≡ m
  pub more : new ≡ old ++ row ∷ []

-- the same, of which these are below
pub record AddsLine (contents : Contents) (before : List ℕ) (child : Child) (inner : List Entry) (old new : List Row) : Type 0 where
  pub row : Row
  pub line : IsLineOf before (child_entry child) row
  pub last : row.is_last ≡ child.is_last
  pub below : IsBelow contents row.claim row.mark inner
  pub more : new ≡ old ++ row ∷ []

-- the line and those below it are added
pub record AddsTree (contents : Contents) (before : List ℕ) (e : Entry) (old new : List Row) : Type 0 where
  pub row : Row
  pub inner : List Entry
  pub inside : List Row
  pub line : IsLineOf before e row
  pub below : IsBelow contents row.claim row.mark inner
  pub trees : AreTreesIn contents (before ++ trunk row.is_last) inner inside
  pub more : new ≡ old ++ row ∷ inside

-- those of all these are added
pub record AddsTrees (contents : Contents) (before : List ℕ) (es : List Entry) (old new : List Row) : Type 0 where
  pub rows : List Row
  pub trees : AreTreesIn contents before es rows
  pub more : new ≡ old ++ rows

-- where each line says what is there, so does each line that is added
abbrev pub KeepsSaid : ℕ → Bool → Contents → List Row → List Row → Type 0
KeepsSaid limit steady contents old new = AreSaid limit steady contents old → AreSaid limit steady contents new

-- ---- what is written

-- a heading of a name and a title, and a line for each row
abbrev pub tree_text : List ℕ → List ℕ → List Row → List ℕ
tree_text name title rows = (escaped (name ++ (codes ": " ++ title)) ++ 10 ∷ []) ++ row_lines rows

abbrev pub WroteTree : List ℕ → List ℕ → Option (List ℕ) → Option (List ℕ) → List Row → Type 0
WroteTree name title old new rows = Appends old new (tree_text name title rows)

-- as what a document of a kind has descriptors; the other kinds have no tree
abbrev pub content_of : Kind → Option ContentKind
content_of kind.Index = Some content.Index
content_of kind.Manifest = Some content.Manifest
content_of kind.Artifact = Some content.Artifact
content_of _ = None

-- the same of a document in these bytes alone, of the kind that is found, of which nothing is marked
pub record WroteAlone (name bytes : List ℕ) (old new : Option (List ℕ)) : Type 0 where
  pub value : Data
  pub of_kind : Kind
  pub as_content : ContentKind
  pub title : List ℕ
  pub rows : List Row
  pub read : ReadsAs bytes value
  pub found : IsAsked None name value of_kind
  pub has_tree : content_of of_kind ≡ Some as_content
  pub lines : AreAlone (entries_of as_content value) rows
  pub wrote : WroteTree name title old new rows

-- the bytes are no document of a kind that is found, or that kind has no tree
abbrev pub HasNoTree : List ℕ → List ℕ → Type 0
HasNoTree name bytes = ¬ IsAllowed None name bytes ⊎ ((d : Data) × ReadsAs bytes d × (option_and_then content_of (kind_for None name d) ≡ None))

-- ---- what the status says

-- nothing is marked but what is shown above, or is missing and may be
abbrev pub IsWhole : List Row → Type 0
IsWhole rows = All (λ r. is_whole r.mark ≡ true) rows

-- the status is 0 exactly if the rows are whole, and else 1
abbrev pub TellsWhole : List Row → ℕ → Type 0
TellsWhole rows status = ((status ≡ 0) × IsWhole rows) ⊎ ((status ≡ 1) × ¬ IsWhole rows)

-- the tree of an image layout was written: a line for each descriptor, which says what is there
pub record IsTree (limit : ℕ) (steady : Bool) (tops contents : Contents) (name : List ℕ) (old new : Option (List ℕ)) (status : ℕ) : Type 0 where
  pub rows : List Row
  pub said : AreSaid limit steady contents rows
  pub lines : IfSome tops (λ t. (bytes : List ℕ) × (t (codes "index.json") ≡ Some bytes) × AreIndexTrees contents bytes rows)
  pub wrote : WroteTree name (codes "an image index") old new rows
  pub told : TellsWhole rows status

-- the index is there, and is no index
abbrev pub IsNoIndex : Contents → List ℕ → Type 0
IsNoIndex tops name = IfSome tops (λ t. (bytes : List ℕ) × (t (codes "index.json") ≡ Some bytes) × ¬ IsAllowed (Some kind.Index) name bytes)

-- such a tree was written, or the index is wrong, or it could not be read or written
abbrev pub IsDrawn : ℕ → Bool → Contents → Contents → List ℕ → Option (List ℕ) → Option (List ℕ) → ℕ → Type 0
IsDrawn limit steady tops contents name old new status =
    IsTree limit steady tops contents name old new status ⊎ (((status ≡ 1) × IsNoIndex tops name) ⊎ (status ≡ 3))
