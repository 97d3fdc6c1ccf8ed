-- Arrays and objects that are made part by part.
use Rattle.std.proofs.Common.{◌≡◌, ℕ, List, [], ◌∷◌, ◌++◌, Option, Some, None, Ok, Err, String, Global, string_bytes, string_cmp, refl, sym, ap, ◌∙◌, subst}
use Rattle.std.specs.Prelude.{Result, IfSome}
use Rattle.std.specs.BTreeMap.{insert_entry}
use Rattle.json.specs.Token.{Token}
use Rattle.serde_json.specs.Data.{Data, array, object, Items, no_items, item, Members, no_members, put}
use Rattle.serde_json.specs.View.{view, items_view, members_view}
use Rattle.serde_json.specs.declared.value.Value.{Value}
use Rattle.serde_json.proofs.Views.{Entry, members_view-insert_entry}
use Rattle.oci_json_tape.specs.Elements.{BeginsWithData}
use Rattle.oci_json_tape.specs.Walked.{InItemsData, InMembersData, NextItemData, NextMemberData}
use Rattle.oci_json_tape.specs.Values.{IfMade}

-- what is said of the value that was made
pub made_value : (o : Option Value) (v : Value) (P : Data → Type 0) → o ≡ Some v → IfSome o (λ w. P (view w)) → P (view v)
made_value o v P is h = subst (λ x. IfSome x (λ w. P (view w))) is h

-- what follows from it
if_some : (o : Option Value) (P Q : Data → Type 0) → ((v : Data) → P v → Q v) → IfSome o (λ w. P (view w)) → IfSome o (λ w. Q (view w))
if_some None P Q k h = tt
if_some (Some v) P Q k h = k (view v) h

if_made : {E : Type 0} (r : Result (Option Value) E) (P Q : Data → Type 0) → ((v : Data) → P v → Q v) → IfMade r P → IfMade r Q
if_made (Ok o) P Q k h = if_some o P Q k h
if_made (Err e) P Q k h = tt

-- the array or the object that begins at an element, of the parts that begin after its bracket
module _ {E : Type 0} (r : Result (Option Value) E) (ts rest : List Token) where
  pub array_made : ((d : Data) → BeginsWithData ts d → (ds : Items) × (d ≡ array ds) × InItemsData rest ds) → IfMade r (λ v. (ds : Items) → InItemsData rest ds → v ≡ array ds)
      → IfMade r (λ v. (d : Data) → BeginsWithData ts d → v ≡ d)
  array_made found h =
      if_made r (λ v. (ds : Items) → InItemsData rest ds → v ≡ array ds) (λ v. (d : Data) → BeginsWithData ts d → v ≡ d)
      (λ v is d b. let p = found d b in is p.0 p.2 ∙ sym p.1) h

  pub object_made : ((d : Data) → BeginsWithData ts d → (ms : Members) × (d ≡ object ms) × InMembersData rest no_members ms)
      → IfMade r (λ v. (ms : Members) → InMembersData rest no_members ms → v ≡ object ms) → IfMade r (λ v. (d : Data) → BeginsWithData ts d → v ≡ d)
  object_made found h =
      if_made r (λ v. (ms : Members) → InMembersData rest no_members ms → v ≡ object ms) (λ v. (d : Data) → BeginsWithData ts d → v ≡ d)
      (λ v is d b. let p = found d b in is p.0 p.2 ∙ sym p.1) h

-- the items of the one before those of the other
abbrev pub joined : Items → Items → Items
joined no_items es = es
joined (item d ds) es = item d (joined ds es)

joined_end : (ds : Items) → joined ds no_items ≡ ds
joined_end no_items = refl
joined_end (item d ds) = ap (item d) (joined_end ds)

joined_more : (vs : List Value) (v : Value) (es : Items) → joined (items_view (vs ++ v ∷ [])) es ≡ joined (items_view vs) (item (view v) es)
joined_more [] v es = refl
joined_more (w ∷ vs) v es = ap (item (view w)) (joined_more vs v es)

-- the items are those that were made, and those that are left
abbrev pub ItemsMade : Items → List Value → List Token → Type 0
ItemsMade ds made rest = (left : Items) × InItemsData rest left × (ds ≡ joined (items_view made) left)

module _ (ds : Items) (made : List Value) (rest next : List Token) where
  -- one item more
  pub items_more : (ts : List Token) (v : Value) (more : List Value) → NextItemData rest (Some ts) next → ((d : Data) → BeginsWithData ts d → view v ≡ d) → more ≡ made ++ v ∷ []
      → ItemsMade ds made rest → ItemsMade ds more next
  items_more ts v more step is add (left, at, all) =
      let p = step left at in (
        p.1,
        p.4,
        all ∙ ap (joined (items_view made)) p.2 ∙ ap (λ d. joined (items_view made) (item d p.1)) (sym (is p.0 p.3))
            ∙ sym (joined_more made v p.1) ∙ ap (λ vs. joined (items_view vs) p.1) (sym add),
      )

  -- no item more
  pub items_over : NextItemData rest None next → ItemsMade ds made rest → items_view made ≡ ds
  items_over step (left, at, all) = sym (all ∙ ap (joined (items_view made)) (step left at) ∙ joined_end (items_view made))

-- the members that are left make those that were made into these
module _ (ms : Members) (made : List Entry) (rest next : List Token) where
  -- one member more
  pub members_more : (m : List ℕ × List Token) (k : String Global) (v : Value) (more : List Entry) → NextMemberData rest (Some m) next → string_bytes k ≡ m.0
      → ((d : Data) → BeginsWithData m.1 d → view v ≡ d) → more ≡ insert_entry string_cmp made k v → InMembersData rest (members_view made) ms → InMembersData next (members_view more) ms
  members_more m k v more step named is add left =
      let p = step (members_view made) ms left in
      subst (λ found. InMembersData next found ms)
      (ap (λ d. put m.0 d (members_view made)) (sym (is p.0 p.1)) ∙ ap (λ n. put n (view v) (members_view made)) (sym named) ∙ sym (members_view-insert_entry made k v) ∙ ap members_view (sym add)) p.2

  -- no member more
  pub members_over : NextMemberData rest None next → InMembersData rest (members_view made) ms → members_view made ≡ ms
  members_over step left = step (members_view made) ms left
