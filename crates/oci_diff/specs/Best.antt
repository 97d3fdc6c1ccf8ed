-- What alignments of two arrays count, and the best of them.
use Rattle.std.specs.Prelude.{◌≡◌, ◌≤◌, ◌<◌, ◌+◌, ◌-◌, ◌==◌, ℕ, zero, suc, max, Bool, false, List, [], ◌∷◌, Option, Some, None, slice_get, slice_index, Vec, if◌then◌else◌}
use Rattle.std.specs.List.{Contains}
use Rattle.std.specs.declared.alloc.Global.{Global}
use Rattle.serde_json.specs.Data.{Data, Items}
use Rattle.serde_json.specs.Events.{items_len}
use Rattle.serde_json.specs.Find.{get_item}
use Rattle.oci_model.specs.Alike.{is_same}
use Rattle.oci_diff.specs.Aligned.{AreAligned}
use Rattle.oci_diff.specs.declared.aligned.TheConstants.{SHORT}
use Rattle.oci_diff.specs.declared.aligned.Step.{Step}
use Rattle.oci_diff.specs.declared.aligned.Step.TheVariants.{Same, Both, First, Second}

-- how many pairs of items that are the same the steps name
abbrev pub sames : List Step → ℕ
sames [] = 0
sames (Same ∷ steps) = suc (sames steps)
sames (Both k ∷ steps) = sames steps
sames (First k ∷ steps) = sames steps
sames (Second k ∷ steps) = sames steps

-- no alignment has a longer common part
abbrev pub IsLongest : List Step → Items → Items → Type 0
IsLongest steps ds es = (others : List Step) → AreAligned others ds es → sames others ≤ sames steps

-- it is a step of an alignment of the two arrays, and of one with a longest common part if both are short
abbrev pub IsStepOf : Items → Items → Step → Type 0
IsStepOf ds es step = (steps : List Step) × AreAligned steps ds es × (items_len ds ≤ SHORT → items_len es ≤ SHORT → IsLongest steps ds es) × Contains steps step

-- ---- for the table of scores

-- there is an item in both places, and both are the same
abbrev pub are_alike : Option Data → Option Data → Bool
are_alike (Some d) (Some e) = is_same d e
are_alike (Some d) None = false
are_alike None e = false

-- one more for a pair at the same index
abbrev pub extra : ℕ → ℕ → ℕ
extra i j = if i == j then 1 else 0

-- what a pair counts
abbrev pub gain_of : Items → Items → ℕ → ℕ → ℕ
gain_of ds es i j = (if are_alike (get_item i ds) (get_item j es) then 65 else 0) + extra i j

-- what a step counts
abbrev pub worth : ℕ → ℕ → Step → ℕ
worth i j Same = 65 + extra i j
worth i j (Both k) = 1
worth i j (First k) = 0
worth i j (Second k) = 0

-- what the best alignment counts of the next longer part of the first array and of so many items of the second, by what it counts of this part of the first
abbrev pub next_best : (ℕ → ℕ) → (ℕ → ℕ) → ℕ → ℕ
next_best gains row zero = 0
next_best gains row (suc c) = max (max (next_best gains row c) (row (suc c))) (row c + gains c)

-- what the best alignment counts of the last r of m items and the last c of n
abbrev pub best : Items → Items → ℕ → ℕ → ℕ → ℕ → ℕ
best ds es m n zero = λ c. 0
best ds es m n (suc r) = next_best (λ c. gain_of ds es (m - suc r) (n - suc c)) (best ds es m n r)

-- the row has what the best alignment counts of the last r items of the first array
abbrev pub IsRow : Items → Items → ℕ → ℕ → ℕ → List ℕ → Type 0
IsRow ds es m n r row = (c : ℕ) → c ≤ n → slice_index row c ≡ best ds es m n r c

-- what a table has in row r at c
abbrev pub score_in : Option (Vec ℕ Global) → ℕ → ℕ
score_in None c = 0
score_in (Some row) c = slice_index row.items c

abbrev pub score_at : List (Vec ℕ Global) → ℕ → ℕ → ℕ
score_at rows r c = score_in (slice_get rows r) c

-- the table has the rows below this one
abbrev pub HasRows : Items → Items → ℕ → ℕ → ℕ → List (Vec ℕ Global) → Type 0
HasRows ds es m n end rows = (r c : ℕ) → r < end → c ≤ n → score_at rows r c ≡ best ds es m n r c
