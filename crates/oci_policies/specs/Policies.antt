-- The rules that a TOML document holds: those of the tables of its array `rule`, in order, each with the kinds of documents that it is for.
use Rattle.std.specs.Prelude.{ℕ, List, [], ◌∷◌, ◌++◌, map, codes, Option, Some, None, option_map, option_and_then, if◌then◌else◌, ◌≡◌, ⊤}
use Rattle.std.specs.List.{flat_map}
use Rattle.toml.specs.Data.{Data, Items, Members, as_str, as_table}
use Rattle.toml.specs.Parse.{parse_document}
use Rattle.oci_schemas.specs.Kinds.{kind_of}
use Rattle.oci_schemas.specs.declared.kind.Kind.{Kind}
use Rattle.oci_schemas.specs.declared.kind.Kind.TheVariants as kind
use Rattle.oci_rules.specs.Rules.{Level, Platform, Place, Test, Rule}
use Rattle.oci_rules.specs.Platforms.{every}
use Rattle.oci_rules.specs.Words.{level_named, platform_named}
use Rattle.oci_policies.specs.Conditions.{condition_in}
use Rattle.oci_policies.specs.Places.{Step, if_so, along, steps_of, steps_in}
use Rattle.oci_policies.specs.Tests.{test_named}
use Rattle.oci_policies.specs.declared.error.PolicyError.{PolicyError}
use Rattle.oci_policies.specs.declared.error.PolicyError.TheVariants.{TooBig}
use Rattle.oci_policies.specs.Values.{both, each, list_in, some_items_in, some_in, under, under_or, has_only, sole_other}

abbrev pub level_in : Data → Option Level
level_in d = option_and_then level_named (as_str d)

abbrev pub platform_in : Data → Option Platform
platform_in d = option_and_then platform_named (as_str d)

-- all kinds of documents
abbrev pub every_kind : List Kind
every_kind = kind.Manifest ∷ kind.Index ∷ kind.Config ∷ kind.Artifact ∷ kind.Layout ∷ kind.Descriptor ∷ kind.Error ∷ kind.Repositories ∷ kind.Tags ∷ kind.Reference ∷ kind.Spec ∷ kind.State ∷ kind.ProcessState ∷ kind.Features ∷ []

abbrev pub kind_in : Data → Option Kind
kind_in d = option_and_then kind_of (as_str d)

-- one kind, or an array of kinds; not none
abbrev pub kinds_or : Option (List ℕ) → Data → Option (List Kind)
kinds_or (Some t) d = option_map (λ k. k ∷ []) (kind_of t)
kinds_or None d = some_in kind_in d

abbrev pub kinds_in : Data → Option (List Kind)
kinds_in d = kinds_or (as_str d) d

-- one place, or an array of places, each of which makes a rule; not none
abbrev pub places_or : Option (List ℕ) → Data → Option (List (List Step))
places_or (Some t) d = option_map (λ s. s ∷ []) (steps_of t)
places_or None d = some_in steps_in d

abbrev pub places_in : Data → Option (List (List Step))
places_in d = places_or (as_str d) d

-- a condition, as a step
abbrev pub step_if : Data → Option Step
step_if d = option_map if_so (condition_in d)

-- what comes behind each place: the conditions of `when`, and from what keeps them the steps of `then`
abbrev pub rest_of : Members → Option (List Step)
rest_of ms =
    option_map (λ x. x.0 ++ x.1)
    (both (under_or [] (list_in step_if) (codes "when") ms) (under_or [] steps_in (codes "then") ms))

-- the names of a rule's table beside that of its test
abbrev pub rule_names : List (List ℕ)
rule_names = codes "name" ∷ codes "kind" ∷ codes "level" ∷ codes "source" ∷ codes "message" ∷ codes "platforms" ∷ codes "at" ∷ codes "when" ∷ codes "then" ∷ []

abbrev pub test_in : Members → Option Test
test_in ms = option_and_then (λ x. test_named x.0 x.1) (sole_other rule_names ms)

-- what the rules of one table have alike, and the message of each
pub record Head : Type 0 where
  pub name : List ℕ
  pub level : Level
  pub section : List ℕ
  pub message : List ℕ
  pub platforms : List Platform
  pub test : Test

abbrev pub head_of : Members → Option Head
head_of ms =
    option_map (λ x. record { name = x.0; level = x.1.0; section = x.1.1.0; message = x.1.1.1.0; platforms = x.1.1.1.1.0; test = x.1.1.1.1.1 })
    (both (under as_str (codes "name") ms) (both (under level_in (codes "level") ms) (both (under as_str (codes "source") ms) (both (under as_str (codes "message") ms)
    (both (under_or every (some_in platform_in) (codes "platforms") ms) (test_in ms))))))

-- a rule and its message
abbrev pub Worded : Type 0
Worded = Rule × List ℕ

unfoldable pub rule_placed : Head → Place → Worded
rule_placed h place = (
  record {
    name = h.name;
    level = h.level;
    section = h.section;
    platforms = h.platforms;
    place = place;
    test = h.test;
  },
  h.message,
)

abbrev pub rule_at : Head → List Step → Worded
rule_at h steps = rule_placed h (along steps)

-- the rules of a table: one for each of its places
abbrev pub rules_of : Members → Option (List Worded)
rules_of ms =
    option_map (λ x. map (λ s. rule_at x.0 (s ++ x.1.1)) x.1.0)
    (both (head_of ms) (both (under places_in (codes "at") ms) (rest_of ms)))

-- the rules of a table, and the kinds that it names, or else those of the document
abbrev pub Book : Type 0
Book = List Kind × List Worded

abbrev pub book_of : List Kind → Members → Option Book
book_of kinds ms = both (under_or kinds kinds_in (codes "kind") ms) (rules_of ms)

abbrev pub book_in : List Kind → Data → Option Book
book_in kinds d = option_and_then (book_of kinds) (as_table d)

abbrev pub document_names : List (List ℕ)
document_names = codes "rule" ∷ codes "kind" ∷ []

-- the kinds of a document, all if it names none, and its tables, of which there is one at least; it has no other members
abbrev pub parts_of : Members → Option (List Kind × Items)
parts_of ms = if has_only document_names ms then both (under_or every_kind kinds_in (codes "kind") ms) (under some_items_in (codes "rule") ms) else None

-- the books of a document
abbrev pub policy_in : Members → Option (List Book)
policy_in ms = option_and_then (λ x. each (book_in x.0) x.1) (parts_of ms)

-- the rules of all books
abbrev pub all_rules : List Book → List Worded
all_rules = flat_map (λ b. b.1)

-- the text is a TOML document that holds these books
abbrev pub IsPolicy : List ℕ → List Book → Type 0
IsPolicy text books = option_and_then policy_in (parse_document text) ≡ Some books

-- a text is refused, since a regular expression would take too much memory
abbrev pub IsTooBig : PolicyError → Type 0
IsTooBig (TooBig line) = ⊤
IsTooBig _ = ⊥
