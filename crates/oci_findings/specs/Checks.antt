-- Which documents pass.
use Rattle.std.specs.Prelude.{◌≡◌, ◌⊎◌, ◌++◌, ◌&&◌, ◌||◌, ℕ, List, [], map, Bool, true, false, if◌then◌else◌, codes, Option, Some, None, IfSome, IsSomeAnd}
use Rattle.std.specs.List.{filter, flat_map}
use Rattle.json.specs.Json.{document}
use Rattle.json.specs.Strict.{HasUniqueKeys}
use Rattle.serde_json.specs.Data.{Data}
use Rattle.serde_json.specs.View.{view}
use Rattle.oci_model.specs.Plain.{Plain}
use Rattle.oci_model.specs.Means.{Means}
use Rattle.oci_json.specs.Engines.{IsNoJson, MeansBytes, ReadsAs}
use Rattle.oci_schemas.specs.declared.kind.Kind.{Kind}
use Rattle.oci_schemas.specs.Kinds.{shape_of}
use Rattle.oci_schema.specs.Twice.{repeated}
use Rattle.oci_schema.specs.Unknown.{Report, unknown}
use Rattle.oci_rules.specs.Breaks.{Told}
use Rattle.oci_rules.specs.Documents.{platform_in}
use Rattle.oci_rules.specs.Listed.{all_broken}
use Rattle.oci_rules.specs.Rules as rules
use Rattle.oci_rules.specs.Rules.{Level, must, stated, should, host}
use Rattle.oci_rules.specs.Tables.{level_of, platform_of, rule_of}
use Rattle.oci_rules.specs.declared.rule.RuntimePlatform.{RuntimePlatform}
use Rattle.oci_findings.specs.Asked.{asks, denies, ignores, is_for, is_wrong_twice}
use Rattle.oci_findings.specs.FoundKind.{kind_for}
use Rattle.oci_findings.specs.declared.asked.Book.{Book}
use Rattle.oci_findings.specs.declared.asked.Check.{Check}
use Rattle.oci_findings.specs.declared.inspect.Reading.{Reading}
use Rattle.oci_findings.specs.declared.inspect.Reading.TheVariants as reading

-- the bytes are a document of this kind
abbrev pub IsOfKind : Kind → List ℕ → Type 0
IsOfKind kind bytes = (p : Plain) × MeansBytes (shape_of kind) bytes p

-- the kind is the one that is asked for, or else the one that the value in a file of this name is found to be of
abbrev pub IsAsked : Option Kind → List ℕ → Data → Kind → Type 0
IsAsked asked name d kind = kind_for asked name d ≡ Some kind

-- the same of the bytes of the file, where they are known
abbrev pub IsKindIn : Option Kind → List ℕ → Option (List ℕ) → Kind → Type 0
IsKindIn (Some asked) name held kind = asked ≡ kind
IsKindIn None name held kind = IfSome held (λ bytes. (d : Data) × ReadsAs bytes d × IsAsked None name d kind)

-- the bytes are a document of the kind that is asked for, or of the one that is found
abbrev pub IsAllowed : Option Kind → List ℕ → List ℕ → Type 0
IsAllowed asked name bytes = (kind : Kind) × (d : Data) × IsAsked asked name d kind × ReadsAs bytes d × ((p : Plain) × Means (shape_of kind) d p)

-- they are a value of which no kind is found
abbrev pub IsOpen : Option Kind → List ℕ → List ℕ → Type 0
IsOpen asked name bytes = (d : Data) × ReadsAs bytes d × (kind_for asked name d ≡ None)

-- they are no JSON, or such a value
abbrev pub HasNoKind : Option Kind → List ℕ → List ℕ → Type 0
HasNoKind asked name bytes = IsNoJson bytes ⊎ IsOpen asked name bytes

-- what bytes hold: a value of the kind that is asked for, or of the one that is found; or a fault
abbrev pub IsReading : Option Kind → List ℕ → List ℕ → Reading → Type 0
IsReading asked name bytes (reading.Value kind value) = IsAsked asked name (view value) kind × ReadsAs bytes (view value)
IsReading asked name bytes (reading.Fault fault) = HasNoKind asked name bytes

-- ---- what a document may lose

-- the schema of the kind lists all members of the value
abbrev pub AllListed : Kind → Data → Type 0
AllListed kind d = unknown (shape_of kind) [] d ≡ []

-- the bytes are JSON in which no object has two members of one name
abbrev pub HasNamesOnce : List ℕ → Type 0
HasNamesOnce bytes = IsSomeAnd (document bytes) HasUniqueKeys

-- all members of the document in the bytes, of which this is the value, are in its canonical form
abbrev pub AllKept : Kind → Data → List ℕ → Type 0
AllKept kind d bytes = AllListed kind d × HasNamesOnce bytes

-- ---- what `check` asks

-- a level (second) is no weaker than the one that is asked for (first)
abbrev pub counts : Level → Level → Bool
counts must must = true
counts stated must = true
counts stated stated = true
counts should must = true
counts should stated = true
counts should should = true
counts host level = true
counts asked level = false

-- a document that breaks a rule of this level is wrong; of the other levels it is warned
abbrev pub binds : Level → Bool
binds must = true
binds stated = true
binds should = false
binds host = false

-- something is said of a document that breaks the rule
abbrev pub is_heard : Check → rules.Rule → Bool
is_heard a r = asks a r.name && counts (level_of a.level) r.level

-- a document that breaks it is wrong: by the rule's level, or since warnings count too
abbrev pub is_error : Check → rules.Rule → Bool
is_error a r = is_heard a r && (a.strict || binds r.level)

abbrev pub rules_if : Bool → List rules.Rule → List rules.Rule
rules_if true rs = rs
rules_if false rs = []

-- the rules of the books for the kind
abbrev pub rules_for : Kind → List Book → List rules.Rule
rules_for kind = flat_map (λ b. rules_if (is_for b kind) (map rule_of b.rules.now))

-- the rules of the specifications for the kind, where they are asked for, and those of the policy for it
abbrev pub asked_rules : (Kind → List rules.Rule) → Check → Kind → List rules.Rule
asked_rules books a kind = rules_if a.rules (books kind) ++ rules_for kind a.policy.now

-- the platform that is asked for, or the one that the document says
abbrev pub platform_asked : Option RuntimePlatform → Data → rules.Platform
platform_asked (Some platform) d = platform_of platform
platform_asked None d = platform_in d

-- what breaks rules and makes the document wrong
abbrev pub counted : (Kind → List rules.Rule) → Check → Kind → Data → List Told
counted books a kind d = filter (λ x. is_error a x.0) (all_broken (asked_rules books a kind) (platform_asked a.platform d) d)

-- the members that the schema does not list, where they are wrong
abbrev pub denied : Check → Kind → Data → List Report
denied a kind d = if denies a then unknown (shape_of kind) [] d else []

-- a value is a document of the kind, unless violations of the schema are ignored
abbrev pub HasShape : Check → Kind → Data → Type 0
HasShape a kind d = ignores a (codes "schema") ≡ false → (p : Plain) × Means (shape_of kind) d p

-- no member of the JSON in the bytes is wrong since an earlier one has its name: no name stands twice at all, or those that do may
abbrev pub HasKeysOnce : Check → Kind → List ℕ → Type 0
HasKeysOnce a kind bytes = HasNamesOnce bytes ⊎ IfSome (document bytes) (λ j. filter (is_wrong_twice a kind) (repeated [] j) ≡ [])

-- a value is of the shape that is asked for, breaks no rule that makes it wrong, and has no member that is denied
abbrev pub IsRightValue : (Kind → List rules.Rule) → Check → Kind → Data → Type 0
IsRightValue books a kind d = HasShape a kind d × ((counted books a kind d ≡ []) × (denied a kind d ≡ []))

-- no kind of the bytes is found, and what has none is to be passed over
abbrev pub IsPassedOver : Check → List ℕ → List ℕ → Type 0
IsPassedOver a name bytes = (a.skip_unknown ≡ true) × IsOpen a.kind name bytes

-- the bytes of a file of this name are such a value, of the kind that is asked for, or of the one that is found, and no key stands twice that may not
abbrev pub IsRightDocument : (Kind → List rules.Rule) → Check → List ℕ → List ℕ → Type 0
IsRightDocument books a name bytes = (kind : Kind) × (d : Data) × IsAsked a.kind name d kind × ReadsAs bytes d × IsRightValue books a kind d × HasKeysOnce a kind bytes

-- they are, or they are passed over
abbrev pub IsRight : (Kind → List rules.Rule) → Check → List ℕ → List ℕ → Type 0
IsRight books a name bytes = IsRightDocument books a name bytes ⊎ IsPassedOver a name bytes

-- they are neither
abbrev pub IsWrong : (Kind → List rules.Rule) → Check → List ℕ → List ℕ → Type 0
IsWrong books a name bytes = IsRight books a name bytes → ⊥
