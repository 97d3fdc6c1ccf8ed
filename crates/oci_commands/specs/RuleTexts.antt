-- What is written of rules, for people and as JSON Lines.
use Rattle.std.specs.Prelude.{◌≡◌, ◌++◌, ◌∷◌, [], ℕ, List, Option, Some, None, length, map, bytes_eq, codes, nat_lt, string_bytes, if◌then◌else◌}
use Rattle.std.specs.List.{AllZip, concat, filter, flat_map}
use Rattle.json.specs.Token.{Token, begin_array, begin_object, end_array, end_object, key, string}
use Rattle.oci_base.specs.Names.{is_listed}
use Rattle.oci_rules.specs.Rules.{Rule, Place, here, under, each_item, each_member, each_name, if_so, Platform, linux, windows, solaris, vm, zos, freebsd}
use Rattle.oci_rules.specs.Words.{level_named}
use Rattle.oci_schemas.specs.declared.kind.Kind.{Kind}
use Rattle.oci_schemas.specs.Kinds.{kind_of}
use Rattle.oci_findings.specs.FoundKind.{all_kinds}
use Rattle.oci_findings.specs.Wording.{marked}
use Rattle.oci_commands.specs.declared.rules_named.Told.{Told}
use Rattle.oci_commands.specs.Objects.{line_of, text_member}
use Rattle.oci_commands.specs.Texts.{Joins}

-- ---- parts of a rule

-- a place: `*` is each item of an array, `{}` each member of an object, and `{name}` the name of each; that of the whole document is empty
abbrev pub place_text : Place → List ℕ
place_text here = []
place_text (under name p) = codes "/" ++ (name ++ place_text p)
place_text (each_item p) = codes "/*" ++ place_text p
place_text (each_member p) = codes "/{}" ++ place_text p
place_text (each_name p) = codes "/{name}" ++ place_text p
place_text (if_so c p) = place_text p

abbrev pub platform_word : Platform → List ℕ
platform_word linux = codes "linux"
platform_word windows = codes "windows"
platform_word solaris = codes "solaris"
platform_word vm = codes "vm"
platform_word zos = codes "zos"
platform_word freebsd = codes "freebsd"

-- the texts with one more, unless it is there
abbrev pub with_new : List ℕ → List (List ℕ) → List (List ℕ)
with_new text texts = if is_listed texts text then texts else texts ++ text ∷ []

-- the texts behind others, each once
abbrev pub each_once : List (List ℕ) → List (List ℕ) → List (List ℕ)
each_once before [] = before
each_once before (t ∷ ts) = each_once (with_new t before) ts

-- ---- the rules that are asked for

-- those of the name
abbrev pub named : List ℕ → List Rule → List Rule
named name = filter (λ r. bytes_eq r.name name)

-- all, or those of the name
abbrev pub chosen : Option (List ℕ) → List Rule → List Rule
chosen None rules = rules
chosen (Some name) rules = named name rules

-- ---- for people

-- the row of a rule: its name, the word for its level, its section, and what it wants
abbrev pub IsRow : Rule → List ℕ → Type 0
IsRow r row =
    (level : List ℕ) × (wanted : List ℕ) × (level_named level ≡ Some r.level)
    × (row ≡ codes "  " ++ (r.name ++ (codes " [" ++ (level ++ (codes ": " ++ (r.section ++ (codes "]: " ++ (wanted ++ 10 ∷ []))))))))

-- where a rule is asked: `/` is the whole document
abbrev pub path_text : List ℕ → List ℕ
path_text [] = codes "/"
path_text (c ∷ cs) = c ∷ cs

-- for which platforms, unless for all six
abbrev pub platforms_text : List Platform → List ℕ
platforms_text ps = if nat_lt (length ps) 6 then marked (codes " on ") (map platform_word ps) else []

abbrev pub place_line : Rule → List ℕ
place_line r = codes "    at " ++ (path_text (place_text r.place) ++ (platforms_text r.platforms ++ 10 ∷ []))

-- the row of a rule, and the line of its place
abbrev pub IsTold : Rule → List ℕ × List ℕ → Type 0
IsTold r told = IsRow r told.0 × (told.1 ≡ place_line r)

abbrev pub told_pair : Told → List ℕ × List ℕ
told_pair t = (string_bytes t.row, string_bytes t.line)

-- the lines with this row, each once
abbrev pub lines_behind : List ℕ → List (List ℕ × List ℕ) → List (List ℕ)
lines_behind row tolds = each_once [] (map (λ t. t.1) (filter (λ t. bytes_eq t.0 row) tolds))

-- each row once, and behind it its lines
abbrev pub told_text : List (List ℕ × List ℕ) → List ℕ
told_text tolds = flat_map (λ row. row ++ concat (lines_behind row tolds)) (each_once [] (map (λ t. t.0) tolds))

-- the rules of one kind of documents: a title, and what is told of them; or there are none
abbrev pub IsToldOfKind : List Rule → List ℕ → Type 0
IsToldOfKind [] text = text ≡ []
IsToldOfKind (r ∷ rs) text = (title : List ℕ) × (tolds : List (List ℕ × List ℕ)) × AllZip IsTold (r ∷ rs) tolds × (text ≡ title ++ 10 ∷ told_text tolds)

-- those of a name, of each kind of documents in turn
abbrev pub IsToldOf : (Kind → List Rule) → List ℕ → List ℕ → Type 0
IsToldOf books name = Joins (λ kind. IsToldOfKind (named name (books kind))) all_kinds

-- ---- as JSON Lines

-- a member that is an array of strings
abbrev pub texts_member : List ℕ → List (List ℕ) → List Token
texts_member name texts = key name ∷ begin_array ∷ [] ++ map string texts ++ end_array ∷ []

-- the members of a rule alone
abbrev pub words_tokens : Rule → List ℕ → List ℕ → List ℕ → List Token
words_tokens r kind level wanted =
    text_member (codes "name") r.name
    ++ text_member (codes "kind") kind
    ++ text_member (codes "level") level
    ++ text_member (codes "section") r.section
    ++ text_member (codes "wanted") wanted

-- its object, with the places and the platforms of all rules of its name
abbrev pub rule_tokens : Rule → List Rule → List ℕ → List ℕ → List ℕ → List Token
rule_tokens r same kind level wanted =
    begin_object ∷ []
    ++ words_tokens r kind level wanted
    ++ texts_member (codes "places") (each_once [] (map (λ q. place_text q.place) same))
    ++ texts_member (codes "platforms") (each_once [] (flat_map (λ q. map platform_word q.platforms) same))
    ++ end_object ∷ []

-- the line of a rule for documents of a kind, among the rules
abbrev pub IsRuleObject : Kind → List Rule → Rule → List ℕ → Type 0
IsRuleObject kind rules r line =
    (word : List ℕ) × (level : List ℕ) × (wanted : List ℕ) × (kind_of word ≡ Some kind) × (level_named level ≡ Some r.level)
    × (line ≡ line_of (rule_tokens r (named r.name rules) word level wanted))

-- the first rule of each name but these
abbrev pub firsts : List (List ℕ) → List Rule → List Rule
firsts names [] = []
firsts names (r ∷ rs) = if is_listed names r.name then firsts names rs else r ∷ firsts (names ++ r.name ∷ []) rs

-- a line for each name
abbrev pub AreRuleObjects : Kind → List Rule → List ℕ → Type 0
AreRuleObjects kind rules = Joins (IsRuleObject kind rules) (firsts [] rules)

-- of each kind of documents in turn
abbrev pub AreAllRuleObjects : (Kind → List Rule) → Option (List ℕ) → List ℕ → Type 0
AreAllRuleObjects books name = Joins (λ kind. AreRuleObjects kind (chosen name (books kind))) all_kinds
