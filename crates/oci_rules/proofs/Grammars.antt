-- Whether a text is of a grammar, or has a match.
use Rattle.std.proofs.Common.{◌≡◌, Bool, List, ℕ}
use Rattle.std.specs.Prelude.{◌↔◌, IsTrue}
use Rattle.std.proofs.lemmas.Bool.Decides.{same_from_decides}
use Rattle.oci_grammars.specs.DecidedLicenses.{has_listed}
use Rattle.oci_grammars.specs.DecidedNesting.{is_inside}
use Rattle.oci_grammars.specs.DecidedPrecedence.{are_in_order}
use Rattle.oci_grammars.specs.Grammars.{IsOf}
use Rattle.oci_grammars.specs.Licenses.{HasListed}
use Rattle.oci_grammars.specs.Nesting.{IsInside}
use Rattle.oci_grammars.specs.Precedence.{AreInOrder}
use Rattle.oci_grammars.specs.Tests.{is_of}
use Rattle.oci_grammars.specs.declared.grammar.Grammar.{Grammar}
use Rattle.oci_patterns.specs.Expressions.{HasMatch, has_match}
use Rattle.oci_patterns.proofs.Matching.{has_match_tells}
use Rattle.oci_grammars.proofs.Grammars.{is_of_decides}
use Rattle.oci_grammars.proofs.LicenseLists.{has_listed_decides}
use Rattle.oci_grammars.proofs.NestedPaths.{is_inside_decides}
use Rattle.oci_grammars.proofs.VersionOrder.{in_order_decides}

-- what decides a grammar comes to the same
pub accepted : (g : Grammar) (t : List ℕ) (r : Bool) → IsTrue r ↔ IsOf g t → r ≡ is_of g t
accepted g t r h = same_from_decides r (is_of g t) h (is_of_decides g t)

-- the same of the licences of an expression
pub listed : (licenses exceptions : List (List ℕ)) (t : List ℕ) (r : Bool) → IsTrue r ↔ HasListed licenses exceptions t → r ≡ has_listed licenses exceptions t
listed licenses exceptions t r h = same_from_decides r (has_listed licenses exceptions t) h (has_listed_decides licenses exceptions t)

-- and of a regular expression
pub matched : (pattern t : List ℕ) (r : Bool) → IsTrue r ↔ HasMatch pattern t → r ≡ has_match pattern t
matched pattern t r h = same_from_decides r (has_match pattern t) h (has_match_tells pattern t)

-- and of the order of versions
pub in_order : (first second : List ℕ) (r : Bool) → IsTrue r ↔ AreInOrder first second → r ≡ are_in_order first second
in_order first second r h = same_from_decides r (are_in_order first second) h (in_order_decides first second)

-- and of a path inside another
pub inside : (other path : List ℕ) (r : Bool) → IsTrue r ↔ IsInside other path → r ≡ is_inside other path
inside other path r h = same_from_decides r (is_inside other path) h (is_inside_decides other path)
