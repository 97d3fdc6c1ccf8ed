-- How deep arrays and objects nest that are made part by part.
use Rattle.std.proofs.Common.{◌≡◌, ℕ, ◌≤◌, List, [], ◌∷◌, ◌++◌, Ordering, Less, Equal, Greater, String, Global, string_bytes, string_cmp, nat_cmp, subst, sym, ap, ◌∙◌, arith}
use Rattle.std.specs.BTreeMap.{insert_entry}
use Rattle.std.specs.Cmp.Lexicographic.{slice_cmp}
use Rattle.std.specs.Ordering.{match_ordering}
use Rattle.serde_json.specs.Data.{Data, depth, items_depth, Members, no_members, member, members_depth, put}
use Rattle.serde_json.specs.View.{view, items_view, members_view}
use Rattle.serde_json.specs.declared.value.Value.{Value}
use Rattle.serde_json.proofs.Views.{Entry, members_view-insert_entry}

items_nest : (made : List Value) (v : Value) (n : ℕ) → depth (view v) ≤ n → items_depth (items_view made) ≤ n → items_depth (items_view (made ++ v ∷ [])) ≤ n
items_nest [] v n h k = omega arith
items_nest (w ∷ made) v n h k = let more = items_nest made v n h (omega arith) in omega arith

-- one item more
pub item_nests : (made more : List Value) (v : Value) (n : ℕ) → more ≡ made ++ v ∷ [] → depth (view v) ≤ n → items_depth (items_view made) ≤ n → items_depth (items_view more) ≤ n
item_nests made more v n add h k = subst (λ vs. items_depth (items_view vs) ≤ n) (sym add) (items_nest made v n h k)

put_nests : (k : List ℕ) (d : Data) (ms : Members) (n : ℕ) → depth d ≤ n → members_depth ms ≤ n → members_depth (put k d ms) ≤ n
put_nests k d no_members n h m = omega arith
put_nests k d (member l e ms) n h m = placed (slice_cmp nat_cmp k l) (put_nests k d ms n h (omega arith))
  where
    placed : (o : Ordering) → members_depth (put k d ms) ≤ n → members_depth (match_ordering o (member k d (member l e ms)) (member l d ms) (member l e (put k d ms))) ≤ n
    placed Less rest = omega arith
    placed Equal rest = omega arith
    placed Greater rest = omega arith

-- one member more
pub member_nests : (made more : List Entry) (k : String Global) (v : Value) (n : ℕ) → more ≡ insert_entry string_cmp made k v → depth (view v) ≤ n → members_depth (members_view made) ≤ n
    → members_depth (members_view more) ≤ n
member_nests made more k v n add h m =
    subst (λ ms. members_depth ms ≤ n) (sym (ap members_view add ∙ members_view-insert_entry made k v)) (put_nests (string_bytes k) (view v) (members_view made) n h m)
