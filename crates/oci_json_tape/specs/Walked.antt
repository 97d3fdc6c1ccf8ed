-- A walk over a tape's items or members, in the words of `serde_json`.
use Rattle.std.specs.Prelude.{◌≡◌, ℕ, List, Option, Some, MatchOption}
use Rattle.json.specs.Token.{Token}
use Rattle.json.specs.Json as json
use Rattle.json.specs.Find.{InItems, InMembers}
use Rattle.serde_json.specs.Data.{Data, Items, no_items, item, Members, put}
use Rattle.serde_json.specs.Read.{of_items, of_members}
use Rattle.oci_json_tape.specs.Elements.{BeginsWithData}

-- the tokens begin with these items, and the closing bracket
abbrev pub InItemsData : List Token → Items → Type 0
InItemsData ts ds = (js : json.Items) × InItems ts js × (of_items js ≡ Some ds)

-- the tokens begin with members that make `found` into `out`
abbrev pub InMembersData : List Token → Members → Members → Type 0
InMembersData ts found out = (ms : json.Members) × InMembers ts ms × (of_members ms found ≡ Some out)

abbrev pub NextItemData : List Token → Option (List Token) → List Token → Type 0
NextItemData old r new = (ds : Items) → InItemsData old ds
    → MatchOption r (ds ≡ no_items) (λ ts. (d : Data) × (rest : Items) × (ds ≡ item d rest) × BeginsWithData ts d × InItemsData new rest)

abbrev pub NextMemberData : List Token → Option (List ℕ × List Token) → List Token → Type 0
NextMemberData old r new = (found out : Members) → InMembersData old found out
    → MatchOption r (found ≡ out) (λ m. (d : Data) × BeginsWithData m.1 d × InMembersData new (put m.0 d found) out)
