-- Where a rule of a policy looks: the steps that a JSON Pointer (RFC 6901) writes, with `*` for each item of an array, `{}` for each
-- member of an object, and `{name}` for the name of each member. A part of a pointer with `~` is refused.
use Rattle.std.specs.Prelude.{ℕ, List, [], ◌∷◌, length, Bool, codes, bytes_eq, Option, Some, None, option_map, option_and_then, if◌then◌else◌, ◌==◌, ◌||◌}
use Rattle.std.specs.List.{slice_split, list_any}
use Rattle.toml.specs.Data.{Data, as_str}
use Rattle.oci_rules.specs.Rules as rules
use Rattle.oci_policies.specs.Values.{all}

-- one step from a value to its parts
pub data Step : Type 0 where
  to_member : List ℕ → Step
  to_each_item : Step
  to_each_member : Step
  to_each_name : Step
  if_so : rules.Condition → Step

-- the place to which steps lead
abbrev pub step_along : Step → rules.Place → rules.Place
step_along (to_member name) p = rules.under name p
step_along to_each_item p = rules.each_item p
step_along to_each_member p = rules.each_member p
step_along to_each_name p = rules.each_name p
step_along (if_so c) p = rules.if_so c p

abbrev pub along : List Step → rules.Place
along [] = rules.here
along (s ∷ ss) = step_along s (along ss)

-- ---- pointers

abbrev pub slash : ℕ
slash = 47

abbrev pub has_tilde : List ℕ → Bool
has_tilde t = list_any (λ b. b == 126) t

abbrev pub behind_slash : List ℕ → Option (List ℕ)
behind_slash [] = None
behind_slash (b ∷ t) = if b == slash then Some t else None

-- the parts of a pointer: nothing for the whole, else each behind a slash
abbrev pub parts_of : List ℕ → Option (List (List ℕ))
parts_of t = if length t == 0 then Some [] else option_map (slice_split (λ b. b == slash)) (behind_slash t)

abbrev pub name_of : List ℕ → Option (List ℕ)
name_of t = if has_tilde t || (bytes_eq t (codes "*") || (bytes_eq t (codes "{}") || bytes_eq t (codes "{name}"))) then None else Some t

unfoldable pub step_of : List ℕ → Option Step
step_of t =
    if bytes_eq t (codes "*") then Some to_each_item
    else (if bytes_eq t (codes "{}") then Some to_each_member
    else (if bytes_eq t (codes "{name}") then Some to_each_name
    else option_map to_member (name_of t)))

-- a pointer of names alone
abbrev pub way_of : List ℕ → Option (List (List ℕ))
way_of t = option_and_then (all name_of) (parts_of t)

abbrev pub way_in : Data → Option (List (List ℕ))
way_in d = option_and_then way_of (as_str d)

abbrev pub steps_of : List ℕ → Option (List Step)
steps_of t = option_and_then (all step_of) (parts_of t)

abbrev pub steps_in : Data → Option (List Step)
steps_in d = option_and_then steps_of (as_str d)
