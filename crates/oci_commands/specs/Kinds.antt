-- What `kind` writes of files.
use Rattle.std.specs.Prelude.{◌≡◌, ◌++◌, ◌∷◌, [], ℕ, List, Option, Some, None, codes}
use Rattle.json.specs.Token.{Token, begin_array, begin_object, end_array, end_object, key, string}
use Rattle.oci_base.specs.Escaped.{escaped}
use Rattle.oci_schemas.specs.declared.kind.Kind.{Kind}
use Rattle.oci_schemas.specs.Kinds.{kind_of}
use Rattle.oci_findings.specs.Checks.{IsKindIn}
use Rattle.oci_findings.specs.declared.style.Style.{Style}
use Rattle.oci_findings.specs.declared.style.Style.TheVariants.{Text, Color, Json, Sarif, Github}
use Rattle.oci_commands.specs.Objects.{line_of, text_member}

-- the line of a document of this name (first): its name, escaped, and the word of its kind
abbrev pub IsKindText : List ℕ → Kind → List ℕ → Type 0
IsKindText name kind line = (word : List ℕ) × (kind_of word ≡ Some kind) × (line ≡ escaped (name ++ (codes ": " ++ word)) ++ 10 ∷ [])

-- the kinds that are possible, where it is this one alone
abbrev pub only_candidate : List ℕ → List Token
only_candidate word = key (codes "candidates") ∷ (begin_array ∷ (string word ∷ (end_array ∷ [])))

-- the object of such a document
abbrev pub IsKindObject : List ℕ → Kind → List ℕ → Type 0
IsKindObject name kind line =
    (word : List ℕ) × (kind_of word ≡ Some kind)
    × (line ≡ line_of (begin_object ∷ [] ++ text_member (codes "file") name ++ text_member (codes "kind") word ++ only_candidate word ++ end_object ∷ []))

-- the one or the other
abbrev pub IsShownKind : Style → List ℕ → Kind → List ℕ → Type 0
IsShownKind Text name kind line = IsKindText name kind line
IsShownKind Json name kind line = IsKindObject name kind line
IsShownKind Sarif name kind line = IsKindText name kind line
IsShownKind Github name kind line = IsKindText name kind line
IsShownKind Color name kind line = IsKindText name kind line

-- the line of a file of this name (third), of the one kind that its bytes are found to be of, where they are known
abbrev pub IsKindLine : Style → Option (List ℕ) → List ℕ → List ℕ → Type 0
IsKindLine style held name line = (kind : Kind) × IsKindIn None name held kind × IsShownKind style name kind line
