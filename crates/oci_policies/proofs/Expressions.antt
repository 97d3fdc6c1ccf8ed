-- Whether a text is a regular expression.
use Rattle.std.proofs.Common.{◌≡◌, ℕ, List, Some, None, inl, inr, is_some, refl}
use Rattle.std.proofs.lemmas.Bool.{cases_Bool}
use Rattle.oci_patterns.specs.Expressions.{expression_of, IsExpression}
use Rattle.oci_policies.specs.Values.{expression}

pub expression_there : (t : List ℕ) → IsExpression t → expression t ≡ Some t
expression_there t is = rw is refl

pub expression_missing : (t : List ℕ) → ¬ IsExpression t → expression t ≡ None
expression_missing t not =
    elim (cases_Bool (is_some (expression_of t))) [
      | inl is ↦ absurd (not is)
      | inr other ↦ rw other refl
    ]
