-- Where the pointers of violations lead.
use Rattle.std.specs.Prelude.{◌≡◌, ◌≤◌, ◌^◌, ◌⊎◌, ⊤, ℕ, List, [], ◌∷◌, true, false, Some, None, is_some}
use Rattle.serde_json.specs.Data.{Data, null, boolean, number, string, array, object, Items, no_items, item, Members, no_members, member}
use Rattle.serde_json.specs.Events.{items_len}
use Rattle.serde_json.specs.Find.{as_array, as_object, get, get_item}
use Rattle.oci_model.specs.Means.{is_object}
use Rattle.oci_json.specs.Readable.{IsInOrder}
use Rattle.oci_schema.specs.Places.{under_name, under_index}
use Rattle.oci_schema.specs.Violations.{Expectation, is_of_kind, a_value, a_member, no_alias, Report}

-- one step into a value: to the member of this name, or to the item at this index
pub data Step : Type 0 where
  to_member : List ℕ → Step
  to_item : ℕ → Step

-- the JSON pointer of a way that goes on from a place
abbrev pub spelled : List ℕ → List Step → List ℕ
spelled at [] = at
spelled at (to_member name ∷ way) = spelled (under_name at name) way
spelled at (to_item i ∷ way) = spelled (under_index at i) way

-- this member is among the members
abbrev pub Have : Members → List ℕ → Data → Type 0
Have no_members name d = ⊥
Have (member k e ms) name d = ((name ≡ k) × (d ≡ e)) ⊎ Have ms name d

abbrev pub HasMember : Data → List ℕ → Data → Type 0
HasMember d name c = (ms : Members) × (as_object d ≡ Some ms) × Have ms name c

abbrev pub HasItem : Data → ℕ → Data → Type 0
HasItem d i c = (ds : Items) × (as_array d ≡ Some ds) × (get_item i ds ≡ Some c)

-- the way goes from a value to a part of it
abbrev pub Goes : List Step → Data → Data → Type 0
Goes [] d part = d ≡ part
Goes (to_member name ∷ way) d part = (c : Data) × HasMember d name c × Goes way c part
Goes (to_item i ∷ way) d part = (c : Data) × HasItem d i c × Goes way c part

-- the pointer leads from a value to a part of it
abbrev pub LeadsTo : Data → List ℕ → Data → Type 0
LeadsTo d at part = (way : List Step) × (spelled [] way ≡ at) × Goes way d part

-- the place is that of a member of this name, in an object that is a part of the value
abbrev pub IsPlaceIn : Data → List ℕ → List ℕ → Data → Type 0
IsPlaceIn d at name outer = (holder : List ℕ) × (under_name holder name ≡ at) × LeadsTo d holder outer × (is_object outer ≡ true)

-- what is reported of a place is so
abbrev pub HoldsAt : Data → List ℕ → Expectation → Type 0
-- there is a part, and it is not of the expected kind
HoldsAt d at (a_value k) = (part : Data) × LeadsTo d at part × (is_of_kind k part ≡ false)
-- there is no member
HoldsAt d at (a_member k) = (name : List ℕ) × (outer : Data) × IsPlaceIn d at name outer × (get name outer ≡ None)
-- there is a member, and one of the alias beside it
HoldsAt d at (no_alias alias) =
    (name : List ℕ) × (outer : Data) × IsPlaceIn d at name outer × (is_some (get name outer) ≡ true) × (is_some (get alias outer) ≡ true)

abbrev pub IsSo : Data → Report → Type 0
IsSo d x = HoldsAt d x.0 x.1

-- the names of each object are in order, so that none is there twice, and each item has an index of 64 bits
abbrev mutual
  pub IsOrderly : Data → Type 0
  IsOrderly null = ⊤
  IsOrderly (boolean b) = ⊤
  IsOrderly (number n) = ⊤
  IsOrderly (string t) = ⊤
  IsOrderly (array ds) = (items_len ds ≤ 2 ^ 64) × AreOrderly ds
  IsOrderly (object ms) = IsInOrder ms × HoldOrderly ms

  pub AreOrderly : Items → Type 0
  AreOrderly no_items = ⊤
  AreOrderly (item d ds) = IsOrderly d × AreOrderly ds

  pub HoldOrderly : Members → Type 0
  HoldOrderly no_members = ⊤
  HoldOrderly (member name d ms) = IsOrderly d × HoldOrderly ms
