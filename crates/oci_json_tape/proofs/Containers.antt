-- Arrays and objects that are written item by item and member by member.
use Rattle.std.proofs.Common.{◌≡◌, ℕ, List, [], ◌∷◌, ◌++◌, refl, sym, ap, ◌∙◌, append_assoc, append-nil}
use Rattle.json.specs.Token.{Token}
use Rattle.json.specs.Print.{print}
use Rattle.json.specs.Tree.{items_tokens, members_tokens}
use Rattle.serde_json.specs.Data.{Data, array, object, Items, no_items, item, Members, no_members, member}
use Rattle.serde_json.specs.Written.{compact_text, items_outline, members_outline}
use Rattle.serde_json.proofs.Texts.{print-outline}
use Rattle.oci_json_tape.specs.Tokens.{data_tokens, item_tokens, member_tokens, with_last_item, with_last_member, IsOpenArray, IsOpenObject}

-- the text of a tree's tokens
pub text_of : (ts : List Token) (bytes : List ℕ) (d : Data) → bytes ≡ [] ++ print ts → ts ≡ data_tokens d → bytes ≡ compact_text d
text_of ts bytes d is same = is ∙ ap print same ∙ print-outline d

-- ---- the closing bracket

closed_items : (ds : Items) → items_tokens (items_outline ds) ≡ item_tokens ds ++ (Token.end_array ∷ [])
closed_items no_items = refl
closed_items (item d ds) = ap (λ ts. data_tokens d ++ ts) (closed_items ds) ∙ sym (append_assoc (data_tokens d) (item_tokens ds) (Token.end_array ∷ []))

closed_members : (ms : Members) → members_tokens (members_outline ms) ≡ member_tokens ms ++ (Token.end_object ∷ [])
closed_members no_members = refl
closed_members (member k d ms) =
    ap (λ ts. Token.key k ∷ (data_tokens d ++ ts)) (closed_members ms) ∙ ap (λ ts. Token.key k ∷ ts) (sym (append_assoc (data_tokens d) (member_tokens ms) (Token.end_object ∷ [])))

pub closed_array : (start : List Token) (ds : Items) (old new : List Token) → IsOpenArray start ds old → new ≡ old ++ (Token.end_array ∷ []) → new ≡ start ++ data_tokens (array ds)
closed_array start ds old new begun is =
    is ∙ ap (λ ts. ts ++ (Token.end_array ∷ [])) begun.is ∙ append_assoc start (Token.begin_array ∷ item_tokens ds) (Token.end_array ∷ [])
    ∙ ap (λ ts. start ++ (Token.begin_array ∷ ts)) (sym (closed_items ds))

pub closed_object : (start : List Token) (ms : Members) (old new : List Token) → IsOpenObject start ms old → new ≡ old ++ (Token.end_object ∷ []) → new ≡ start ++ data_tokens (object ms)
closed_object start ms old new begun is =
    is ∙ ap (λ ts. ts ++ (Token.end_object ∷ [])) begun.is ∙ append_assoc start (Token.begin_object ∷ member_tokens ms) (Token.end_object ∷ [])
    ∙ ap (λ ts. start ++ (Token.begin_object ∷ ts)) (sym (closed_members ms))

-- ---- one more item or member

item_tokens-more : (ds : Items) (d : Data) → item_tokens (with_last_item ds d) ≡ item_tokens ds ++ data_tokens d
item_tokens-more no_items d = append-nil (data_tokens d)
item_tokens-more (item e ds) d = ap (λ ts. data_tokens e ++ ts) (item_tokens-more ds d) ∙ sym (append_assoc (data_tokens e) (item_tokens ds) (data_tokens d))

member_tokens-more : (ms : Members) (k : List ℕ) (d : Data) → member_tokens (with_last_member ms k d) ≡ member_tokens ms ++ (Token.key k ∷ data_tokens d)
member_tokens-more no_members k d = ap (λ ts. Token.key k ∷ ts) (append-nil (data_tokens d))
member_tokens-more (member l e ms) k d =
    ap (λ ts. Token.key l ∷ (data_tokens e ++ ts)) (member_tokens-more ms k d) ∙ ap (λ ts. Token.key l ∷ ts) (sym (append_assoc (data_tokens e) (member_tokens ms) (Token.key k ∷ data_tokens d)))

-- an item was written
pub item_more : (start : List Token) (ds : Items) (d : Data) (old new : List Token) → IsOpenArray start ds old → new ≡ old ++ data_tokens d → IsOpenArray start (with_last_item ds d) new
item_more start ds d old new begun is = record {
  is =
      is ∙ ap (λ ts. ts ++ data_tokens d) begun.is ∙ append_assoc start (Token.begin_array ∷ item_tokens ds) (data_tokens d)
      ∙ ap (λ ts. start ++ (Token.begin_array ∷ ts)) (sym (item_tokens-more ds d));
}

-- a name was written, and then the value
pub member_more : (start : List Token) (ms : Members) (k : List ℕ) (d : Data) (old named new : List Token) → IsOpenObject start ms old
    → named ≡ old ++ (Token.key k ∷ []) → new ≡ named ++ data_tokens d → IsOpenObject start (with_last_member ms k d) new
member_more start ms k d old named new begun name is = record {
  is =
      is ∙ ap (λ ts. ts ++ data_tokens d) name ∙ append_assoc old (Token.key k ∷ []) (data_tokens d)
      ∙ ap (λ ts. ts ++ (Token.key k ∷ data_tokens d)) begun.is ∙ append_assoc start (Token.begin_object ∷ member_tokens ms) (Token.key k ∷ data_tokens d)
      ∙ ap (λ ts. start ++ (Token.begin_object ∷ ts)) (sym (member_tokens-more ms k d));
}
