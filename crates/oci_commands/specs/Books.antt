-- What `rules` writes.
use Rattle.std.specs.Prelude.{◌≡◌, ◌++◌, ◌∷◌, [], ℕ, List, Bool, true, false, Option, Some, None, bytes_eq, ⊤}
use Rattle.std.specs.List.{flat_map, list_any}
use Rattle.std.specs.Borrow.{Bor}
use Rattle.std.specs.Io.KnownBytes.{Appends}
use Rattle.oci_rules.specs.Rules.{Rule}
use Rattle.oci_schemas.specs.declared.kind.Kind.{Kind}
use Rattle.oci_findings.specs.FoundKind.{all_kinds}
use Rattle.oci_findings.specs.Kinds.{kind_named}
use Rattle.oci_findings.specs.declared.style.Style.{Style}
use Rattle.oci_findings.specs.declared.style.Style.TheVariants.{Text, Color, Json, Sarif, Github}
use Rattle.oci_commands.specs.RuleTexts.{AreAllRuleObjects, AreRuleObjects, IsRow, IsToldOf, with_new}

-- the rows of the rules in their order, each once, were put behind others
abbrev pub Rows : List Rule → List (List ℕ) → List (List ℕ) → Type 0
Rows [] before after = after ≡ before
Rows (r ∷ rs) before after = (row : List ℕ) × IsRow r row × Rows rs (with_new row before) after

-- the rules of a kind: a title, and their rows
abbrev pub IsSection : List Rule → List ℕ → Type 0
IsSection rules text = (title : List ℕ) × (rows : List (List ℕ)) × Rows rules [] rows × (text ≡ title ++ 10 ∷ flat_map (λ row. row) rows)

-- behind what there is, a section and an empty line
abbrev pub with_section : List ℕ → List ℕ → List ℕ
with_section before section = before ++ (section ++ 10 ∷ [])

-- the sections of these kinds in their order, behind what there is
abbrev pub Sections : (Kind → List Rule) → List Kind → List ℕ → List ℕ → Type 0
Sections books [] before after = after ≡ before
Sections books (kind ∷ kinds) before after = (section : List ℕ) × IsSection (books kind) section × Sections books kinds (with_section before section) after

-- those of all kinds, and the line of the versions
abbrev pub AreAllRules : (Kind → List Rule) → List ℕ → Type 0
AreAllRules books text = (sections : List ℕ) × (versions : List ℕ) × Sections books all_kinds [] sections × (text ≡ sections ++ (versions ++ 10 ∷ []))

-- a rule of the list has the name; a rule for some kind of documents has
abbrev pub has_rule : List ℕ → List Rule → Bool
has_rule name = list_any (λ r. bytes_eq r.name name)

abbrev pub is_rule : (Kind → List Rule) → List ℕ → Bool
is_rule books name = list_any (λ kind. has_rule name (books kind)) all_kinds

-- the rules of the kind, or of the name
abbrev pub AreRulesOf : (Kind → List Rule) → Option Kind → List ℕ → List ℕ → Type 0
AreRulesOf books (Some kind) name text = IsSection (books kind) text
AreRulesOf books None name text = IsToldOf books name text

-- the rules of all kinds, of the kind of this name, or of the name
abbrev pub AreRulesNamed : (Kind → List Rule) → Option (Bor (List ℕ)) → List ℕ → Type 0
AreRulesNamed books None text = AreAllRules books text
AreRulesNamed books (Some name) text = AreRulesOf books (kind_named name.now) name.now text

-- the same as JSON Lines
abbrev pub AreObjectsOf : (Kind → List Rule) → Option Kind → List ℕ → List ℕ → Type 0
AreObjectsOf books (Some kind) name text = AreRuleObjects kind (books kind) text
AreObjectsOf books None name text = AreAllRuleObjects books (Some name) text

abbrev pub AreObjectsNamed : (Kind → List Rule) → Option (Bor (List ℕ)) → List ℕ → Type 0
AreObjectsNamed books None text = AreAllRuleObjects books None text
AreObjectsNamed books (Some name) text = AreObjectsOf books (kind_named name.now) name.now text

-- for people, or for programs
abbrev pub AreShownRules : (Kind → List Rule) → Style → Option (Bor (List ℕ)) → List ℕ → Type 0
AreShownRules books Text name text = AreRulesNamed books name text
AreShownRules books Color name text = AreRulesNamed books name text
AreShownRules books Json name text = AreObjectsNamed books name text
AreShownRules books Sarif name text = AreRulesNamed books name text
AreShownRules books Github name text = AreRulesNamed books name text

-- there is no name, or it is that of a kind or of a rule
abbrev pub IsKnown : (Kind → List Rule) → Option (Bor (List ℕ)) → Type 0
IsKnown books None = ⊤
IsKnown books (Some name) = kind_named name.now ≡ None → is_rule books name.now ≡ true

-- such a text was written
abbrev pub WroteRules : (Kind → List Rule) → Style → Option (Bor (List ℕ)) → Option (List ℕ) → Option (List ℕ) → Type 0
WroteRules books style name old new = IsKnown books name × ((text : List ℕ) × AreShownRules books style name text × Appends old new text)

-- there is a rule of the name, and what is told of it was written, and behind that why it is asked and an example, of which nothing is said
abbrev pub WroteRule : (Kind → List Rule) → List ℕ → Option (List ℕ) → Option (List ℕ) → Type 0
WroteRule books name old new = (is_rule books name ≡ true) × ((text : List ℕ) × (example : List ℕ) × IsToldOf books name text × Appends old new (text ++ example))

-- the name is that of no kind and of no rule
abbrev pub IsUnknown : (Kind → List Rule) → Option (Bor (List ℕ)) → Type 0
IsUnknown books None = ⊥
IsUnknown books (Some name) = (kind_named name.now ≡ None) × (is_rule books name.now ≡ false)
