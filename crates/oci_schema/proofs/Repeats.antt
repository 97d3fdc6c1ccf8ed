-- One member more of an object, or one item more of an array, that is gone through.
use Rattle.std.proofs.Common.{◌≡◌, ℕ, zero, suc, ◌+◌, ◌<◌, ◌≤◌, List, [], ◌∷◌, ◌++◌, ◌||◌, Bool, bytes_eq, length, drop, drop-cons, add-one, get_or, slice_index_or, String, Bor, refl, subst, sym, ap, ◌∙◌, append_assoc, arith}
use Rattle.std.proofs.lemmas.List.{append-nil, drop_all}
use Rattle.std.specs.declared.alloc.Global.{Global}
use Rattle.std.specs.BTreeSet.{BTreeSet, contains_text}
use Rattle.json.specs.Json.{Members, no_members, member}
use Rattle.json.specs.Value.{value_view, items_view, members_view}
use Rattle.json.specs.declared.value.Value.{Value}
use Rattle.oci_schema.specs.Places.{under_index, under_name}
use Rattle.oci_schema.specs.Twice.{with_name, if_there, repeated, repeated_items, repeated_members, items_size, members_size}

abbrev Entry : Type 0
Entry = Bor (List ℕ) × Value Global

drop_at : (rs : List Entry) (i : ℕ) (x : Entry) → i < length rs → drop i rs ≡ slice_index_or rs i x ∷ drop (i + 1) rs
drop_at [] i x below = absurd (omega arith)
drop_at (r ∷ rs) zero x below = refl
drop_at (r ∷ rs) (suc i) x below =
    let e : suc i + 1 ≡ suc (i + 1) = omega arith in
    drop_at rs i x (omega arith) ∙ ap (λ k. slice_index_or rs i x ∷ drop k (r ∷ rs)) (sym e)

cut_at : (rs : List Entry) (i : ℕ) (x : Entry) → i < length rs → x ≡ slice_index_or rs i x → drop i rs ≡ x ∷ drop (i + 1) rs
cut_at rs i x below is = drop_at rs i x below ∙ ap (λ z. z ∷ drop (i + 1) rs) (sym is)

item_cut : (js : List (Value Global)) (i : ℕ) (x : Value Global) → i < length js → x ≡ get_or js i x → drop i js ≡ x ∷ drop (i + 1) js
item_cut js i x below is = drop-cons js i x below ∙ rw add-one (ap (λ z. z ∷ drop (suc i) js) (sym is))

-- the same names before list the same members
names_same : (at : List ℕ) (p q : List ℕ → Bool) → ((t : List ℕ) → p t ≡ q t) → (ms : Members) → repeated_members at p ms ≡ repeated_members at q ms
names_same at p q is no_members = refl
names_same at p q is (member k j ms) =
    ap (λ b. (if_there b (under_name at k) ++ repeated (under_name at k) j) ++ repeated_members at (with_name k p) ms) (is k)
    ∙ ap (λ z. (if_there (q k) (under_name at k) ++ repeated (under_name at k) j) ++ z) (names_same at (with_name k p) (with_name k q) (λ t. ap (λ b. bytes_eq t k || b) (is t)) ms)

-- what one member adds, put before what is left
more_of : (init f0 f1 f2 one two left : List (List ℕ)) → f0 ++ ((one ++ two) ++ left) ≡ init → f1 ≡ f0 ++ one → f2 ≡ f1 ++ two → f2 ++ left ≡ init
more_of init f0 f1 f2 one two left before e h =
    ap (λ z. z ++ left) (h ∙ ap (λ z. z ++ two) e ∙ append_assoc f0 one two) ∙ append_assoc f0 (one ++ two) left ∙ before

pub name_step : (at : List ℕ) (init f0 f1 f2 : List (List ℕ)) (seen kept : BTreeSet (String Global)) (ms : List Entry) (i : ℕ) (x : Entry) (b : Bool) (p q : List ℕ) → i < length ms → x ≡ slice_index_or ms i x
    → f0 ++ repeated_members at (contains_text seen) (members_view (drop i ms)) ≡ init → b ≡ contains_text seen x.0.now → p ≡ under_name at x.0.now → q ≡ under_name at x.0.now
    → f1 ≡ f0 ++ if_there b p → f2 ≡ f1 ++ repeated q (value_view x.1) → ((t : List ℕ) → contains_text kept t ≡ with_name x.0.now (contains_text seen) t)
    → f2 ++ repeated_members at (contains_text kept) (members_view (drop (i + 1) ms)) ≡ init
name_step at init f0 f1 f2 seen kept ms i x b p q below is before hb hp hq e h k =
    let cut : drop i ms ≡ x ∷ drop (i + 1) ms = cut_at ms i x below is in
    let split : f0 ++ repeated_members at (contains_text seen) (members_view (x ∷ drop (i + 1) ms)) ≡ init =
    subst (λ (es : List Entry). f0 ++ repeated_members at (contains_text seen) (members_view es) ≡ init) cut before in
    ap (λ z. f2 ++ z) (names_same at (contains_text kept) (with_name x.0.now (contains_text seen)) k (members_view (drop (i + 1) ms)))
    ∙ more_of init f0 f1 f2 _ _ _ split (e ∙ ap (λ z. f0 ++ if_there z p) hb ∙ ap (λ z. f0 ++ if_there (contains_text seen x.0.now) z) hp) (h ∙ ap (λ z. f1 ++ repeated z (value_view x.1)) hq)

pub name_smaller : (ms : List Entry) (i : ℕ) (x : Entry) → i < length ms → x ≡ slice_index_or ms i x → members_size (members_view (drop i ms)) ≤ members_size (members_view ms)
    → members_size (members_view (drop (i + 1) ms)) ≤ members_size (members_view ms)
name_smaller ms i x below is before =
    let cut : drop i ms ≡ x ∷ drop (i + 1) ms = cut_at ms i x below is in
    let split : members_size (members_view (x ∷ drop (i + 1) ms)) ≤ members_size (members_view ms) = subst (λ (es : List Entry). members_size (members_view es) ≤ members_size (members_view ms)) cut before in
    omega arith

-- one item more of an array
pub item_step : (at : List ℕ) (f0 f1 all : List (List ℕ)) (js : List (Value Global)) (i : ℕ) (x : Value Global) (q : List ℕ) → i < length js → x ≡ get_or js i x
    → f0 ++ repeated_items at i (items_view (drop i js)) ≡ all → q ≡ under_index at i → f1 ≡ f0 ++ repeated q (value_view x)
    → f1 ++ repeated_items at (i + 1) (items_view (drop (i + 1) js)) ≡ all
item_step at f0 f1 all js i x q below is before hq h =
    let cut : drop i js ≡ x ∷ drop (i + 1) js = item_cut js i x below is in
    let split : f0 ++ (repeated (under_index at i) (value_view x) ++ repeated_items at (i + 1) (items_view (drop (i + 1) js))) ≡ all =
    subst (λ (xs : List (Value Global)). f0 ++ repeated_items at i (items_view xs) ≡ all) cut before in
    ap (λ z. z ++ repeated_items at (i + 1) (items_view (drop (i + 1) js))) (h ∙ ap (λ z. f0 ++ repeated z (value_view x)) hq)
    ∙ append_assoc f0 (repeated (under_index at i) (value_view x)) (repeated_items at (i + 1) (items_view (drop (i + 1) js))) ∙ split

pub item_smaller : (js : List (Value Global)) (i : ℕ) (x : Value Global) → i < length js → x ≡ get_or js i x → items_size (items_view (drop i js)) ≤ items_size (items_view js)
    → items_size (items_view (drop (i + 1) js)) ≤ items_size (items_view js)
item_smaller js i x below is before =
    let cut : drop i js ≡ x ∷ drop (i + 1) js = item_cut js i x below is in
    let split : items_size (items_view (x ∷ drop (i + 1) js)) ≤ items_size (items_view js) =
    subst (λ (xs : List (Value Global)). items_size (items_view xs) ≤ items_size (items_view js)) cut before in
    omega arith

-- all was gone through
pub items_done : (at : List ℕ) (f all : List (List ℕ)) (js : List (Value Global)) (i : ℕ) → length js ≤ i → f ++ repeated_items at i (items_view (drop i js)) ≡ all → f ≡ all
items_done at f all js i past before =
    sym (append-nil f) ∙ subst (λ (xs : List (Value Global)). f ++ repeated_items at i (items_view xs) ≡ all) (drop_all i js past) before

pub members_done : (at : List ℕ) (f all : List (List ℕ)) (seen : List ℕ → Bool) (ms : List Entry) (i : ℕ) → length ms ≤ i
    → f ++ repeated_members at seen (members_view (drop i ms)) ≡ all → f ≡ all
members_done at f all seen ms i past before =
    sym (append-nil f) ∙ subst (λ (es : List Entry). f ++ repeated_members at seen (members_view es) ≡ all) (drop_all i ms past) before
