-- Alignments of two arrays.
use Rattle.std.specs.Prelude.{◌≡◌, ◌+◌, ◌<◌, ⊤, ℕ, List, [], ◌∷◌, Some}
use Rattle.serde_json.specs.Data.{Data, Items}
use Rattle.serde_json.specs.Events.{items_len}
use Rattle.serde_json.specs.Find.{get_item}
use Rattle.oci_diff.specs.Same.{AreSame}
use Rattle.oci_diff.specs.declared.aligned.Step.{Step}
use Rattle.oci_diff.specs.declared.aligned.Step.TheVariants.{Same, Both, First, Second}

-- at these indexes stand items that are the same
abbrev pub AreSameAt : Items → Items → ℕ → ℕ → Type 0
AreSameAt ds es i j = (d : Data) × (e : Data) × (get_item i ds ≡ Some d) × (get_item j es ≡ Some e) × AreSame d e

-- it is a step from these indexes
abbrev pub IsStep : Items → Items → ℕ → ℕ → Step → Type 0
IsStep ds es i j Same = AreSameAt ds es i j
IsStep ds es i j (Both k) = (k ≡ i) × (k ≡ j)
IsStep ds es i j (First k) = k ≡ i
IsStep ds es i j (Second k) = k ≡ j

-- the index of the first array to which a step goes, and that of the second
abbrev pub first_after : Step → ℕ → ℕ
first_after Same i = i + 1
first_after (Both k) i = i + 1
first_after (First k) i = i + 1
first_after (Second k) i = i

abbrev pub second_after : Step → ℕ → ℕ
second_after Same j = j + 1
second_after (Both k) j = j + 1
second_after (First k) j = j
second_after (Second k) j = j + 1

-- the steps go from two indexes to these, one after the other
abbrev pub Lead : Items → Items → ℕ → ℕ → List Step → ℕ → ℕ → Type 0
Lead ds es i j [] m n = (i ≡ m) × (j ≡ n)
Lead ds es i j (step ∷ steps) m n = IsStep ds es i j step × Lead ds es (first_after step i) (second_after step j) steps m n

-- the steps go over all items of both arrays, from the first to the last
abbrev pub AreAligned : List Step → Items → Items → Type 0
AreAligned steps ds es = Lead ds es 0 0 steps (items_len ds) (items_len es)

-- the arrays have so many items that those of the step are among them
abbrev pub IsWithin : ℕ → ℕ → Step → Type 0
IsWithin m n Same = ⊤
IsWithin m n (Both k) = (k < m) × (k < n)
IsWithin m n (First k) = k < m
IsWithin m n (Second k) = k < n
