-- What it is that a part of a document breaks a rule, and that a document keeps its rules.
use Rattle.std.specs.Prelude.{ℕ, ◌<◌, ◌≡◌, List, [], Some, unwrap_or, IsTrue}
use Rattle.std.specs.List.{Contains}
use Rattle.serde_json.specs.Data.{Data, string, Items, no_items}
use Rattle.serde_json.specs.Find.{get_item}
use Rattle.oci_schema.specs.Places.{under_name, under_index}
use Rattle.oci_schema.specs.Leads.{HasMember, HasItem}
use Rattle.oci_rules.specs.Rules.{Platform, Key, Test, text, spdx_identifiers, one_of, none_of, begins, matches, reserved, within, truth, there, absent, not_null, boolean_member, either, not_empty, length_at_most, at_most, versions_in_order, sum_at_most, as_many, lists, lists_item, apart, distinct, among, Place, here, under, each_item, each_member, each_name, if_so, Rule}
use Rattle.oci_rules.specs.Platforms.{is_for}
use Rattle.oci_rules.specs.Parts.{present, items_at, key_of}
use Rattle.oci_rules.specs.Tests.{IsAmong, Holds, Passes}

-- the part stands at the place, seen from a value at a pointer; `shown` is the part's own pointer
abbrev pub Stands : Data → Place → List ℕ → Data → List ℕ → Data → Type 0
Stands root here at d shown part = (shown ≡ at) × (part ≡ d)
Stands root (under name p) at d shown part = (c : Data) × (present name d ≡ Some c) × Stands root p (under_name at name) c shown part
Stands root (each_item p) at d shown part = (i : ℕ) × (c : Data) × HasItem d i c × Stands root p (under_index at i) c shown part
Stands root (each_member p) at d shown part = (name : List ℕ) × (c : Data) × HasMember d name c × Stands root p (under_name at name) c shown part
Stands root (each_name p) at d shown part = (name : List ℕ) × (c : Data) × HasMember d name c × Stands root p (under_name at name) (string name) shown part
Stands root (if_so c p) at d shown part = Holds root c d × Stands root p at d shown part

-- an item at this index has the key of an earlier one
abbrev pub HasEarlier : Key → ℕ → Data → Type 0
HasEarlier key i d = (j : ℕ) × (c e : Data) × (t : List ℕ) × (j < i) × HasItem d j c × HasItem d i e × (key_of key c ≡ Some t) × (key_of key e ≡ Some t)

-- the item at this index of the first list is not in the second
abbrev pub IsOther : List ℕ → List ℕ → ℕ → Data → Type 0
IsOther a b i d = (ds : Items) × (c : Data) × (items_at a d ≡ Some ds) × (get_item i ds ≡ Some c) × (IsAmong (unwrap_or (items_at b d) no_items) c → ⊥)

-- what is shown of a part that does not pass: itself, or what of it is missing or too much
abbrev pub Shows : Test → List ℕ → Data → List ℕ → Type 0
Shows (text g) at d shown = shown ≡ at
Shows (spdx_identifiers licenses exceptions) at d shown = shown ≡ at
Shows (one_of ts) at d shown = shown ≡ at
Shows (none_of ts) at d shown = shown ≡ at
Shows (begins front) at d shown = shown ≡ at
Shows (matches pattern) at d shown = shown ≡ at
Shows (reserved front ts) at d shown = shown ≡ at
Shows (within low high) at d shown = shown ≡ at
Shows (truth b) at d shown = shown ≡ at
Shows (there name) at d shown = shown ≡ under_name at name
Shows (absent name) at d shown = shown ≡ under_name at name
Shows (not_null name) at d shown = shown ≡ under_name at name
Shows (boolean_member name) at d shown = shown ≡ under_name at name
Shows (either names) at d shown = shown ≡ at
Shows not_empty at d shown = shown ≡ at
Shows (length_at_most most) at d shown = shown ≡ at
Shows (at_most a b) at d shown = shown ≡ under_name at a
Shows (versions_in_order a b) at d shown = shown ≡ under_name at a
Shows (sum_at_most a b most) at d shown = shown ≡ at
Shows (as_many a name b) at d shown = shown ≡ at
Shows (lists ts) at d shown = shown ≡ at
Shows (lists_item name t) at d shown = shown ≡ at
Shows (apart name) at d shown = shown ≡ at
Shows (distinct key) at d shown = (i : ℕ) × (shown ≡ under_index at i) × HasEarlier key i d
Shows (among a b) at d shown = (i : ℕ) × (shown ≡ under_index (under_name at a) i) × IsOther a b i d

-- a rule, and the pointer of what breaks it
abbrev pub Told : Type 0
Told = Rule × List ℕ

-- one of the rules is for the platform; a part at its place does not pass its test, and the pointer shows it
abbrev pub Breaks : List Rule → Platform → Data → Told → Type 0
Breaks rs platform d x =
    Contains rs x.0 × IsTrue (is_for platform x.0.platforms)
    × ((at : List ℕ) × (part : Data) × Stands d x.0.place [] d at part × (Passes x.0.test part → ⊥) × Shows x.0.test at part x.1)

-- each part at the place of each rule for the platform passes its test
abbrev pub KeepsAll : List Rule → Platform → Data → Type 0
KeepsAll rs platform d =
    (r : Rule) → Contains rs r → IsTrue (is_for platform r.platforms) → (at : List ℕ) (part : Data) → Stands d r.place [] d at part → Passes r.test part
