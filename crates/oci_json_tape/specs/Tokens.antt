-- The tokens of compact JSON text (RFC 8259): of a tree, and of arrays and objects that are open.
use Rattle.std.specs.Prelude.{◌≡◌, ℕ, List, [], ◌∷◌, ◌++◌}
use Rattle.json.specs.Token.{Token}
use Rattle.json.specs.Tree.{json_tokens}
use Rattle.serde_json.specs.Data.{Data, Items, no_items, item, Members, no_members, member}
use Rattle.serde_json.specs.Written.{outline}

-- the tree's tokens
abbrev pub data_tokens : Data → List Token
data_tokens d = json_tokens (outline d)

-- the items' tokens, without the closing bracket
abbrev pub item_tokens : Items → List Token
item_tokens no_items = []
item_tokens (item d ds) = data_tokens d ++ item_tokens ds

-- the members' tokens, without the closing brace
abbrev pub member_tokens : Members → List Token
member_tokens no_members = []
member_tokens (member k d ms) = Token.key k ∷ (data_tokens d ++ member_tokens ms)

-- one more item at the end
abbrev pub with_last_item : Items → Data → Items
with_last_item no_items d = item d no_items
with_last_item (item e ds) d = item e (with_last_item ds d)

-- one more member at the end
abbrev pub with_last_member : Members → List ℕ → Data → Members
with_last_member no_members k d = member k d no_members
with_last_member (member l e ms) k d = member l e (with_last_member ms k d)

-- after the start stands an array with these items, which is not closed
pub record IsOpenArray (start : List Token) (ds : Items) (now : List Token) : Type 0 where
  pub is : now ≡ start ++ (Token.begin_array ∷ item_tokens ds)

-- after the start stands an object with these members, which is not closed
pub record IsOpenObject (start : List Token) (ms : Members) (now : List Token) : Type 0 where
  pub is : now ≡ start ++ (Token.begin_object ∷ member_tokens ms)
