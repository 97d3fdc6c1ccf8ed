-- What a list of differences tells of two values: all that is not the same in them, each at its place.
use Rattle.std.specs.Prelude.{◌≡◌, ◌≤◌, ⊤, ℕ, List, map, Bool, true, false, Option, Some, None, string_bytes}
use Rattle.std.specs.List.{Contains}
use Rattle.serde_json.specs.Data.{Data, array, object, Items, Members}
use Rattle.serde_json.specs.Events.{items_len}
use Rattle.serde_json.specs.Find.{get, get_item}
use Rattle.serde_json.specs.View.{view}
use Rattle.oci_schema.specs.Leads.{Have}
use Rattle.oci_schema.specs.Places.{under_name, under_index}
use Rattle.oci_diff.specs.Aligned.{AreAligned}
use Rattle.oci_diff.specs.Best.{IsLongest}
use Rattle.oci_diff.specs.Same.{AreSame}
use Rattle.oci_diff.specs.declared.aligned.TheConstants.{SHORT}
use Rattle.oci_diff.specs.declared.aligned.Step.{Step}
use Rattle.oci_diff.specs.declared.aligned.Step.TheVariants.{Same, Both, First, Second}
use Rattle.oci_diff.specs.declared.changes.Change.{Change}
use Rattle.oci_diff.specs.declared.changes.Change.TheVariants.{Added, Removed, Changed}
use Rattle.oci_diff.specs.declared.changes.Difference.{Difference}

-- what is said of a place
pub data Said : Type 0 where
  added : Data → Said
  removed : Data → Said
  changed : Data → Data → Said

abbrev pub said : Change → Said
said (Added value) = added (view value.now)
said (Removed value) = removed (view value.now)
said (Changed old new) = changed (view old.now) (view new.now)

-- a place, and what is said of it
abbrev pub Told : Type 0
Told = List ℕ × Said

abbrev pub told : Difference → Told
told x = (string_bytes x.pointer, said x.change)

-- both are objects, or both are arrays
abbrev pub have_parts : Data → Data → Bool
have_parts (object ms) (object ns) = true
have_parts (array ds) (array es) = true
have_parts d e = false

-- the list tells all that differs in two values, which are at this place
pub data Tells (list : List Told) : List ℕ → Data → Data → Type 0 where
  -- nothing differs
  equal : {at : List ℕ} {d e : Data} → AreSame d e → Tells list at d e
  -- the one gave way to the other: they are not both objects, nor both arrays
  replaced : {at : List ℕ} {d e : Data} → have_parts d e ≡ false → Contains list (at, changed d e) → Tells list at d e
  -- of two objects: what differs in each member that both have, and each that one has alone
  by_members : {at : List ℕ} {ms ns : Members}
      → ((name : List ℕ) (c b : Data) → Have ms name c → get name (object ns) ≡ Some b → Tells list (under_name at name) c b)
      → ((name : List ℕ) (c : Data) → Have ms name c → get name (object ns) ≡ None → Contains list (under_name at name, removed c))
      → ((name : List ℕ) (b : Data) → Have ns name b → get name (object ms) ≡ None → Contains list (under_name at name, added b))
      → Tells list at (object ms) (object ns)
  -- of two arrays, by an alignment, which is a longest one if both are short: what differs in each pair, and each item that one has alone
  by_items : {at : List ℕ} {ds es : Items} (steps : List Step) → AreAligned steps ds es
      → (items_len ds ≤ SHORT → items_len es ≤ SHORT → IsLongest steps ds es)
      → ((i : ℕ) (c b : Data) → Contains steps (Both i) → get_item i ds ≡ Some c → get_item i es ≡ Some b → Tells list (under_index at i) c b)
      → ((i : ℕ) (c : Data) → Contains steps (First i) → get_item i ds ≡ Some c → Contains list (under_index at i, removed c))
      → ((i : ℕ) (b : Data) → Contains steps (Second i) → get_item i es ≡ Some b → Contains list (under_index at i, added b))
      → Tells list at (array ds) (array es)

-- ---- for what is added to a list of differences

-- all of the one list is in the other
abbrev pub IsAmong : List Told → List Told → Type 0
IsAmong xs ys = (x : Told) → Contains xs x → Contains ys x

-- a list with all that is told now has all that was told before, and is one of which this holds
abbrev pub AddsTold : (List Told → Type 0) → List Difference → List Difference → Type 0
AddsTold Holds old new = (list : List Told) → IsAmong (map told new) list → IsAmong (map told old) list × Holds list

-- what is told of a member of a first value, by what a second has under its name
abbrev pub TellsMember : List Told → List ℕ → Data → Option Data → Type 0
TellsMember list at c (Some b) = Tells list at c b
TellsMember list at c None = Contains list (at, removed c)

-- of each member of a first object
abbrev pub TellsMembers : List Told → List ℕ → Members → Data → Type 0
TellsMembers list at ms e = (name : List ℕ) (c : Data) → Have ms name c → TellsMember list (under_name at name) c (get name e)

-- of each member that a second object has alone
abbrev pub TellsNewMember : List Told → List ℕ → Data → List ℕ → Data → Type 0
TellsNewMember list at d name b = get name d ≡ None → Contains list (under_name at name, added b)

abbrev pub TellsNewMembers : List Told → List ℕ → Data → Members → Type 0
TellsNewMembers list at d ns = (name : List ℕ) (b : Data) → Have ns name b → TellsNewMember list at d name b

-- of the items of a step
abbrev pub TellsStep : List Told → List ℕ → Items → Items → Step → Type 0
TellsStep list at ds es Same = ⊤
TellsStep list at ds es (Both i) = (c b : Data) → get_item i ds ≡ Some c → get_item i es ≡ Some b → Tells list (under_index at i) c b
TellsStep list at ds es (First i) = (c : Data) → get_item i ds ≡ Some c → Contains list (under_index at i, removed c)
TellsStep list at ds es (Second i) = (b : Data) → get_item i es ≡ Some b → Contains list (under_index at i, added b)
