-- Members that are null: a value with some of them left out, and rules to which they matter.
use Rattle.std.specs.Prelude.{ℕ, ◌≡◌, ◌&&◌, Bool, true, false, List, Some}
use Rattle.serde_json.specs.Data.{Data, null, array, object, Items, no_items, item, Members, no_members, member}
use Rattle.serde_json.specs.Find.{get}
use Rattle.oci_schema.specs.Leads.{HasMember, HasItem}
use Rattle.oci_rules.specs.Rules.{Test, not_null, not_empty, length_at_most, Place, here, under, each_item, each_member, each_name, if_so, Rule}
use Rattle.oci_rules.specs.Parts.{present}
use Rattle.oci_rules.specs.Tests.{Holds}

mutual
  -- the second value is the first one, with members left out that are null, at any depth: none of them, some, or all
  pub data LeavesOutNulls : Data → Data → Type 0 where
    unchanged : {d : Data} → LeavesOutNulls d d
    in_items : {ds es : Items} → EachLeavesOutNulls ds es → LeavesOutNulls (array ds) (array es)
    in_members : {ms ns : Members} → MembersLeaveOutNulls ms ns → LeavesOutNulls (object ms) (object ns)

  -- each item stays, also one that is null
  pub data EachLeavesOutNulls : Items → Items → Type 0 where
    no_item : EachLeavesOutNulls no_items no_items
    an_item : {d e : Data} {ds es : Items} → LeavesOutNulls d e → EachLeavesOutNulls ds es → EachLeavesOutNulls (item d ds) (item e es)

  pub data MembersLeaveOutNulls : Members → Members → Type 0 where
    no_member : MembersLeaveOutNulls no_members no_members
    stays : {name : List ℕ} {d e : Data} {ms ns : Members}
        → LeavesOutNulls d e → MembersLeaveOutNulls ms ns → MembersLeaveOutNulls (member name d ms) (member name e ns)
    left_out : {name : List ℕ} {ms ns : Members} → MembersLeaveOutNulls ms ns → MembersLeaveOutNulls (member name null ms) ns

-- ---- rules to which a null matters

-- an object with a member that is null
abbrev pub HasNull : Data → Type 0
HasNull d = (name : List ℕ) × HasMember d name null

-- the test asks that a member is not null, and it is; or how many members there are, and one of them is null
abbrev pub AsksOfNull : Test → Data → Type 0
AsksOfNull (not_null name) d = get name d ≡ Some null
AsksOfNull not_empty d = HasNull d
AsksOfNull (length_at_most most) d = HasNull d
AsksOfNull _ d = ⊥

-- at the place the test asks so of a part, or the place is the names of members of which one is null
abbrev pub MeetsNull : Data → Place → Test → Data → Type 0
MeetsNull root here t d = AsksOfNull t d
MeetsNull root (under name p) t d = (c : Data) × (present name d ≡ Some c) × MeetsNull root p t c
MeetsNull root (each_item p) t d = (i : ℕ) × (c : Data) × HasItem d i c × MeetsNull root p t c
MeetsNull root (each_member p) t d = (name : List ℕ) × (c : Data) × HasMember d name c × MeetsNull root p t c
MeetsNull root (each_name p) t d = HasNull d
MeetsNull root (if_so c p) t d = Holds root c d × MeetsNull root p t d

-- a null matters to the rule in this document
abbrev pub Minds : Rule → Data → Type 0
Minds r d = MeetsNull d r.place r.test d

-- ---- rules to which none matters, whatever the document

abbrev pub looks_at_values : Place → Bool
looks_at_values here = true
looks_at_values (under name p) = looks_at_values p
looks_at_values (each_item p) = looks_at_values p
looks_at_values (each_member p) = looks_at_values p
looks_at_values (each_name p) = false
looks_at_values (if_so c p) = looks_at_values p

abbrev pub asks_of_values : Test → Bool
asks_of_values (not_null name) = false
asks_of_values not_empty = false
asks_of_values (length_at_most most) = false
asks_of_values _ = true

-- it looks at no names, and asks neither that a member is not null nor how many members there are
abbrev pub minds_no_null : Rule → Bool
minds_no_null r = looks_at_values r.place && asks_of_values r.test
