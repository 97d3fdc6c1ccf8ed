-- Names that stand twice in one object: two readers may take different members (RFC 8259, section 4, "Objects").
use Rattle.std.specs.Prelude.{ℕ, suc, ◌+◌, ◌||◌, List, [], ◌∷◌, ◌++◌, Bool, false, bytes_eq, if◌then◌else◌}
use Rattle.json.specs.Json.{Json, null, boolean, number, string, array, object, Items, no_items, item, Members, no_members, member}
use Rattle.oci_schema.specs.Places.{under_name, under_index}

-- the names of the members before, by what is one of them; none
abbrev pub no_name : List ℕ → Bool
no_name q = false

abbrev pub with_name : List ℕ → (List ℕ → Bool) → List ℕ → Bool
with_name k names q = bytes_eq q k || names q

abbrev pub if_there : Bool → List ℕ → List (List ℕ)
if_there seen at = if seen then at ∷ [] else []

-- the pointer of each member whose name an earlier one of its object has, in order
abbrev mutual
  pub repeated : List ℕ → Json → List (List ℕ)
  repeated at null = []
  repeated at (boolean b) = []
  repeated at (number t) = []
  repeated at (string t) = []
  repeated at (array js) = repeated_items at 0 js
  repeated at (object ms) = repeated_members at no_name ms

  pub repeated_items : List ℕ → ℕ → Items → List (List ℕ)
  repeated_items at i no_items = []
  repeated_items at i (item j js) = repeated (under_index at i) j ++ repeated_items at (i + 1) js

  pub repeated_members : List ℕ → (List ℕ → Bool) → Members → List (List ℕ)
  repeated_members at before no_members = []
  repeated_members at before (member k j ms) = (if_there (before k) (under_name at k) ++ repeated (under_name at k) j) ++ repeated_members at (with_name k before) ms

-- how large a value is
abbrev mutual
  pub size : Json → ℕ
  size null = 1
  size (boolean b) = 1
  size (number t) = 1
  size (string t) = 1
  size (array js) = suc (items_size js)
  size (object ms) = suc (members_size ms)

  pub items_size : Items → ℕ
  items_size no_items = 0
  items_size (item j js) = size j + items_size js

  pub members_size : Members → ℕ
  members_size no_members = 0
  members_size (member k j ms) = size j + members_size ms
