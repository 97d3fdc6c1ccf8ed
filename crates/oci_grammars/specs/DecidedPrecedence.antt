-- What the decider of the precedence of versions computes.
use Rattle.std.specs.Prelude.{ℕ, ◌||◌, not, Bool, List}
use Rattle.std.specs.Ordering.{is_gt}
use Rattle.oci_grammars.specs.Decided.{is_semver}
use Rattle.oci_grammars.specs.Precedence.{precedence_cmp}

unfoldable pub are_in_order : List ℕ → List ℕ → Bool
are_in_order first second = not (is_semver first) || (not (is_semver second) || not (is_gt (precedence_cmp first second)))
