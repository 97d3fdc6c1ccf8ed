-- What is said of a document, by what `check` is asked.
use Rattle.std.specs.Prelude.{◌&&◌, ◌||◌, ◌==◌, ℕ, List, length, Bool, true, false, not, bytes_eq, codes}
use Rattle.std.specs.Borrow.{Bor}
use Rattle.std.specs.List.{list_any}
use Rattle.oci_schemas.specs.declared.kind.Kind.{Kind}
use Rattle.oci_schemas.specs.contracts.kind.KindPartialEq.TheImpl as kinds
use Rattle.oci_findings.specs.Annotations.{is_annotation}
use Rattle.oci_findings.specs.declared.asked.Book.{Book}
use Rattle.oci_findings.specs.declared.asked.Check.{Check}
use Rattle.oci_findings.specs.declared.asked.Unknown.{Unknown}
use Rattle.oci_findings.specs.declared.asked.Unknown.TheVariants.{Deny, Warn, Allow}

-- the name is one of these
abbrev pub is_named : List (Bor (List ℕ)) → List ℕ → Bool
is_named names name = list_any (λ n. bytes_eq n.now name) names

-- nothing is said where the rule of this name is broken
abbrev pub ignores : Check → List ℕ → Bool
ignores a rule = is_named a.ignore.now rule

-- the rule of this name, one of the specifications or of the policy, is checked: it is not ignored, and is one of those that are named, if any are
abbrev pub asks : Check → List ℕ → Bool
asks a rule = not (ignores a rule) && ((length a.only.now == 0) || is_named a.only.now rule)

-- the rules of the book are asked of documents of the kind
abbrev pub is_for : Book → Kind → Bool
is_for b kind = list_any (λ k. kinds.ghosts.eq k kind) b.kinds.now

-- a member that the schema does not list is wrong
abbrev pub denies_if : Unknown → Bool → Bool
denies_if Deny strict = true
denies_if Warn strict = strict
denies_if Allow strict = false

abbrev pub denies : Check → Bool
denies a = denies_if a.unknown a.strict && not (ignores a (codes "unknown"))

-- a member of a document of the kind, whose name an earlier member of its object has, is wrong: it is an annotation, or warnings count too
abbrev pub is_wrong_twice : Check → Kind → List ℕ → Bool
is_wrong_twice a kind pointer = not (ignores a (codes "repeated")) && (a.strict || is_annotation kind pointer)
