-- The precedence of semantic versions (Semantic Versioning 2.0.0, section 11).
use Rattle.std.specs.Prelude.{ℕ, ◌≢◌, ◌==◌, List, length, if◌then◌else◌}
use Rattle.std.specs.Char.{is_ascii_digit}
use Rattle.std.specs.Cmp.Lexicographic.{slice_cmp}
use Rattle.std.specs.List.{list_all, slice_split}
use Rattle.std.specs.Ordering.{nat_cmp, ordering_then}
use Rattle.std.specs.declared.cmp.Ordering.{Ordering}
use Rattle.std.specs.declared.cmp.Ordering.TheVariants.{Less, Greater}
use Rattle.oci_base.specs.Classes.{plus, dash, dot, until, after}
use Rattle.oci_grammars.specs.Versions.{IsSemver}

-- numbers without a zero in front: the longer one is the larger, and of two as long the one with the larger digit first
abbrev pub number_cmp : List ℕ → List ℕ → Ordering
number_cmp a b = ordering_then (nat_cmp (length a) (length b)) (slice_cmp nat_cmp a b)

-- identifiers of digits alone are numbers, and lower than others, which compare in ASCII order (11.4.1 to 11.4.3)
abbrev pub identifier_cmp : List ℕ → List ℕ → Ordering
identifier_cmp a b =
    if list_all is_ascii_digit a then (if list_all is_ascii_digit b then number_cmp a b else Less)
    else (if list_all is_ascii_digit b then Greater else slice_cmp nat_cmp a b)

-- from left to right up to the first that differ; where all are equal, more of them are higher (11.2, 11.4.4)
abbrev pub parts_cmp : List ℕ → List ℕ → Ordering
parts_cmp a b = slice_cmp identifier_cmp (slice_split (λ c. c == dot) a) (slice_split (λ c. c == dot) b)

-- a version without a pre-release is higher than one with it (11.3)
abbrev pub release_rank : List ℕ → ℕ
release_rank pre = if length pre == 0 then 1 else 0

abbrev pub pre_cmp : List ℕ → List ℕ → Ordering
pre_cmp a b = ordering_then (nat_cmp (release_rank a) (release_rank b)) (parts_cmp a b)

-- major, minor and patch, then the pre-release (11.2 to 11.4)
abbrev pub release_cmp : List ℕ → List ℕ → Ordering
release_cmp a b = ordering_then (parts_cmp (until dash a) (until dash b)) (pre_cmp (after dash a) (after dash b))

-- build metadata does not figure into it (section 10)
abbrev pub precedence_cmp : List ℕ → List ℕ → Ordering
precedence_cmp a b = release_cmp (until plus a) (until plus b)

-- of two versions, the second is of no lower precedence than the first
abbrev pub AreInOrder : List ℕ → List ℕ → Type 0
AreInOrder first second = IsSemver first → IsSemver second → precedence_cmp first second ≢ Greater
