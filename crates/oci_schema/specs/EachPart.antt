-- What is listed of the parts of a value, each at its place.
use Rattle.std.specs.Prelude.{ℕ, ◌+◌, List, [], ◌++◌, Option, Some, None}
use Rattle.serde_json.specs.Data.{Data, Items, no_items, item, Members, no_members, member}
use Rattle.oci_schema.specs.Places.{under_name, under_index}

-- of each item, the first of which has this index
abbrev pub of_each : {R : Type 0} → (List ℕ → Data → List R) → List ℕ → ℕ → Items → List R
of_each f at i no_items = []
of_each f at i (item d ds) = f (under_index at i) d ++ of_each f at (i + 1) ds

abbrev pub of_each_member : {R : Type 0} → (List ℕ → Data → List R) → List ℕ → Members → List R
of_each_member f at no_members = []
of_each_member f at (member k d ms) = f (under_name at k) d ++ of_each_member f at ms

-- of a value, if there is one
abbrev pub of_items : {R : Type 0} → (List ℕ → Data → List R) → List ℕ → Option Items → List R
of_items f at None = []
of_items f at (Some ds) = of_each f at 0 ds

abbrev pub of_members : {R : Type 0} → (List ℕ → Data → List R) → List ℕ → Option Members → List R
of_members f at None = []
of_members f at (Some ms) = of_each_member f at ms

abbrev pub of_part : {R : Type 0} → (List ℕ → Data → List R) → List ℕ → Option Data → List R
of_part f at None = []
of_part f at (Some d) = f at d
