-- Arrays and objects that a walk over a value writes: what was written, and what is left.
use Rattle.std.proofs.Common.{◌≡◌, ℕ, List, [], ◌∷◌, ◌++◌, false, ◌||◌, ap, ◌∙◌, append_assoc}
use Rattle.json.specs.Token.{Token, begin_array, begin_object, key}
use Rattle.json.specs.Tree.{items_tokens, members_tokens}
use Rattle.serde_json.specs.Data.{Data, array, object, Items, item, Members, member}
use Rattle.serde_json.specs.Written.{items_outline, members_outline, has_float, members_have_float}
use Rattle.oci_json_tape.specs.Tokens.{data_tokens}

-- with these items the tokens are those of all
abbrev pub ItemsLeft : Items → Items → List Token → List Token → Type 0
ItemsLeft all left old now = now ++ items_tokens (items_outline left) ≡ old ++ data_tokens (array all)

abbrev pub MembersLeft : Members → Members → List Token → List Token → Type 0
MembersLeft all left old now = now ++ members_tokens (members_outline left) ≡ old ++ data_tokens (object all)

module _ (all : Items) (old : List Token) where
  pub items_begun : (now : List Token) → now ≡ old ++ begin_array ∷ [] → ItemsLeft all all old now
  items_begun now wrote = let r = items_tokens (items_outline all) in ap (λ t. t ++ r) wrote ∙ append_assoc old (begin_array ∷ []) r

  pub item_added : (d : Data) (left : Items) (now next : List Token) → next ≡ now ++ data_tokens d → ItemsLeft all (item d left) old now → ItemsLeft all left old next
  item_added d left now next wrote whole = let r = items_tokens (items_outline left) in ap (λ t. t ++ r) wrote ∙ append_assoc now (data_tokens d) r ∙ whole

module _ (all : Members) (old : List Token) where
  pub members_begun : (now : List Token) → now ≡ old ++ begin_object ∷ [] → MembersLeft all all old now
  members_begun now wrote = let r = members_tokens (members_outline all) in ap (λ t. t ++ r) wrote ∙ append_assoc old (begin_object ∷ []) r

  pub member_added : (k : List ℕ) (d : Data) (left : Members) (now mid next : List Token) → mid ≡ now ++ key k ∷ [] → next ≡ mid ++ data_tokens d
      → MembersLeft all (member k d left) old now → MembersLeft all left old next
  member_added k d left now mid next named wrote whole =
      let r = members_tokens (members_outline left) in
      ap (λ t. t ++ r) (wrote ∙ ap (λ t. t ++ data_tokens d) named) ∙ append_assoc (now ++ key k ∷ []) (data_tokens d) r ∙ append_assoc now (key k ∷ []) (data_tokens d ++ r) ∙ whole

-- a member with no float is none more
pub none_more : (k : List ℕ) (d : Data) (left : Members) → has_float d ≡ false → members_have_float (member k d left) ≡ members_have_float left
none_more k d left none = ap (λ b. b || members_have_float left) none
