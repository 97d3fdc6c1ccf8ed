-- How many items an array has, and how many members an object.
use Rattle.std.proofs.Common.{◌≡◌, ℕ, List, length, Option, Some, sym, ap, ◌∙◌, option_map}
use Rattle.serde_json.specs.Data.{Items, Members}
use Rattle.serde_json.specs.Events.{items_len, members_len}
use Rattle.serde_json.specs.View.{items_view, members_view}
use Rattle.serde_json.specs.declared.value.Value.{Value}
use Rattle.serde_json.proofs.Views.{Entry, items_len-items_view, members_len-members_view}

pub array_extent : (o : Option Items) (vs : List Value) (n : ℕ) → Some (items_view vs) ≡ o → n ≡ length vs → Some n ≡ option_map items_len o
array_extent o vs n e len = ap Some (len ∙ sym (items_len-items_view vs)) ∙ ap (option_map items_len) e

pub object_extent : (o : Option Members) (es : List Entry) (n : ℕ) → Some (members_view es) ≡ o → n ≡ length es → Some n ≡ option_map members_len o
object_extent o es n e len = ap Some (len ∙ sym (members_len-members_view es)) ∙ ap (option_map members_len) e

pub items_extent : (vs : List Value) (n : ℕ) → n ≡ length vs → n ≡ items_len (items_view vs)
items_extent vs n len = len ∙ sym (items_len-items_view vs)
