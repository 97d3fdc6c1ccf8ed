-- What a compiled expression finds is what its text asks for.
use Rattle.std.proofs.Common.{◌≡◌, ◌≢◌, ◌⊎◌, inl, inr, ⊎_elim, ◌∙◌, ℕ, ◌<◌, ◌≤◌, List, length, Bool, true, false, Option, Some, None, is_some, get_or, refl, sym, subst, true≢false, le-leb, leb-true, arith}
use Rattle.std.specs.Prelude.{◌↔◌, IsSome, IsSomeAnd, IfSome, IsTrue, nat_le}
use Rattle.std.specs.Bool.{Decides}
use Rattle.std.proofs.lemmas.Bool.{cases_Bool}
use Rattle.regex_hir.proofs.AttemptLemmas.{cond_some}
use Rattle.regex_hir.proofs.FindLemmas.{IsFirst-of_first_between}
use Rattle.regex_hir.proofs.OptionLemmas.{value_of_IsSome}
use Rattle.regex_hir.specs.Text.{is_boundary}
use Rattle.regex_syntax.specs.Brackets.{Nested}
use Rattle.regex_syntax.specs.Grammar.{Names, group_count}
use Rattle.regex_syntax.specs.declared.error.ErrorKind.{ErrorKind}
use Rattle.regex_syntax.specs.declared.error.ErrorKind.TheVariants as kind
use Rattle.regex.specs.Failures.{IsRightKind}
use Rattle.regex.specs.Patterns.{Re, Match, SameCaptures, Reads, Refuses, find_str, default_config}
use Rattle.regex.specs.Sources.{IsRefusal}
use Rattle.regex.specs.Strings.{regex_source, regex_config, regex_pattern, IsReadFromSource}
use Rattle.regex.specs.declared.error.Error.{Error}
use Rattle.regex.specs.declared.error.Error.TheVariants.{Syntax, CompiledTooBig, Internal, OutOfMemory}
use Rattle.regex.specs.declared.string.regex.Regex.{Regex}
use Rattle.regex.proofs.ForCallers.{find_str_sound, find_str_complete, is_match_alike}
use Rattle.regex.proofs.Utf8Lemmas.{IsCharBoundary-of_test}
use Rattle.oci_patterns.specs.Expressions.{within, expression_of, IsExpression, HasPart, HasMatch, finds, has_match, IsSyntax}

-- ---- what the text stands for

-- what was read within the limit, where a compiled pattern matches as it does
read_so : (n : ℕ) (o : Option (Nested Re × Names)) (a : Re) (names : Names)
    → IsSomeAnd o (λ (re, found). (re.depth ≤ n) × SameCaptures a re.value × (names ≡ found) × (group_count a ≤ length names))
    → (re : Re) × (within n o ≡ Some re) × SameCaptures a re
read_so n None a names p = absurd p
read_so n (Some (re, found)) a names p = (re.value, let low : nat_le re.depth n ≡ true = le-leb re.depth n p.0 in rw low refl, p.1)

pub reads_so : (r : Regex) (pattern : List ℕ) → regex_source r ≡ pattern → regex_config r ≡ default_config → IsReadFromSource r
    → (re : Re) × (expression_of pattern ≡ Some re) × SameCaptures (regex_pattern r) re
unfolding Reads
reads_so r pattern is_source is_config is_read = read_so _ _ _ _ (rw (is_source, is_config) at is_read)

-- what is compiled is an expression
pub is_expression : (r : Regex) (pattern : List ℕ) → regex_source r ≡ pattern → regex_config r ≡ default_config → IsReadFromSource r → IsExpression pattern
is_expression r pattern is_source is_config is_read =
    let (re, reads, same) = reads_so r pattern is_source is_config is_read in
    subst IsSome (sym reads) refl

too_deep : (n : ℕ) (o : Option (Nested Re × Names)) → IfSome o (λ (re, _). n < re.depth) → within n o ≡ None
too_deep n None h = refl
too_deep n (Some (re, found)) h =
    elim (cases_Bool (nat_le re.depth n)) [
      | inl low ↦ absurd (let le = leb-true re.depth n low in omega (arith, le, h))
      | inr high ↦ rw high refl
    ]

none_read : (n : ℕ) (o : Option (Nested Re × Names)) → o ≡ None → within n o ≡ None
none_read n o h = rw h refl

none_of_refusal : (pattern : List ℕ) (k : ErrorKind) → Refuses default_config pattern k → k ≢ kind.OutOfMemory → expression_of pattern ≡ None
unfolding Refuses
none_of_refusal pattern k h other =
    ⊎_elim (λ memory. absurd (other memory)) (λ rest. ⊎_elim (λ none. none_read _ _ none) (λ deep. too_deep _ _ deep.1) rest) h

-- what is refused for its syntax is no expression
pub no_expression : (pattern : List ℕ) (error : Error) → IsSyntax error → IsRefusal default_config pattern error → IsRightKind default_config pattern error → expression_of pattern ≡ None
no_expression pattern (Syntax e) s refusal right = none_of_refusal pattern e.kind (refusal e refl) right
no_expression pattern CompiledTooBig s refusal right = absurd s
no_expression pattern Internal s refusal right = absurd s
no_expression pattern OutOfMemory s refusal right = absurd s

pub not_expression : (pattern : List ℕ) → expression_of pattern ≡ None → ¬ IsExpression pattern
not_expression pattern none h = absurd (true≢false (sym (subst IsSome none h)))

-- ---- what it matches

found_part : (re : Re) (t : List ℕ) (m : Match) → find_str re t 0 ≡ Some m → HasPart t re
unfolding find_str
found_part re t m e =
    let first = IsFirst-of_first_between _ 0 (length t) m e in
    let cut = (cond_some (is_boundary t m.start) _ m.trace first.here).0 in
    (m.start, m.trace.end, IsCharBoundary-of_test t m.start first.to cut, (find_str_sound re t 0 m e).1)

-- a search finds something exactly where a part matches
pub part_tells : (re : Re) (t : List ℕ) → Decides (is_some (find_str re t 0)) (HasPart t re)
part_tells re t = ((λ e. let (m, found) = value_of_IsSome _ e in found_part re t m found), (λ h. there h))
  where
    there : HasPart t re → is_some (find_str re t 0) ≡ true
    there h = let (i, j, cut, matches) = h in find_str_complete re t 0 i j (omega arith) cut matches

tells_of : (t : List ℕ) (o : Option Re) → Decides (finds o t) (IsSomeAnd o (HasPart t))
tells_of t None = ((λ e. absurd (true≢false (sym e))), (λ h. absurd h))
tells_of t (Some re) = part_tells re t

pub has_match_tells : (pattern t : List ℕ) → Decides (has_match pattern t) (HasMatch pattern t)
has_match_tells pattern t = tells_of t (expression_of pattern)

pub matches_so : (r : Regex) (pattern : List ℕ) → regex_source r ≡ pattern → regex_config r ≡ default_config → IsReadFromSource r
    → (t : List ℕ) → ((k : ℕ) → get_or t k 0 < 256) → (b : Bool) → b ≡ is_some (find_str (regex_pattern r) t 0) → IsTrue b ↔ HasMatch pattern t
matches_so r pattern is_source is_config is_read t bytes b is =
    let (re, reads, same) = reads_so r pattern is_source is_config is_read in
    let found : b ≡ is_some (find_str re t 0) = is ∙ is_match_alike same t bytes true 0 in
    let tells = part_tells re t in (
      (λ e. subst (λ (o : Option Re). IsSomeAnd o (HasPart t)) (sym reads) (tells.0 (sym found ∙ e))),
      (λ h. found ∙ tells.1 (subst (λ (o : Option Re). IsSomeAnd o (HasPart t)) reads h)),
    )

-- nothing matches what is no expression
pub none_matches : (pattern t : List ℕ) → expression_of pattern ≡ None → IsTrue false ↔ HasMatch pattern t
none_matches pattern t none = ((λ e. absurd (true≢false (sym e))), (λ h. absurd (subst (λ (o : Option Re). IsSomeAnd o (HasPart t)) none h)))
