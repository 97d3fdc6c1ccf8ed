-- Labels that are written one after the other, in the order of their keys.
use Rattle.std.proofs.Common.{◌≡◌, ℕ, List, [], ◌∷◌, ◌++◌, Bool, true, false, cond, Some, None, Option, String, Global, Greater, Less, string_bytes, string_cmp, nat_cmp, refl, sym, ap, ◌∙◌, append-nil, subst}
use Rattle.std.specs.Prelude.{bytes_eq, option_map, unwrap_or, Result, Ok, Err, OnOk}
use Rattle.std.specs.Option.{option_or}
use Rattle.std.specs.BTreeMap as tree
use Rattle.std.specs.Cmp.Lexicographic.{slice_cmp}
use Rattle.std.specs.List.{AllByRecursion}
use Rattle.std.specs.List.Sorted.{IsStrictlySortedBy}
use Rattle.std.specs.Map.{keys_of, lookup}
use Rattle.std.specs.Ordering.{ordering_reverse, is_eq}
use Rattle.std.proofs.lemmas.Cmp.{nat_list_cmp_total}
use Rattle.std.proofs.lemmas.Map.Text.{is_eq-slice_cmp, btree_map_updates_text}
use Rattle.std.proofs.lemmas.Slice.Eq.{bytes_eq-Decides}
use Rattle.oci_convert.specs.Maps.{Sets, look, look_in}

abbrev pub Entry : Type 0
Entry = String Global × String Global

abbrev pub Map : Type 0
Map = tree.BTreeMap (String Global) (String Global)

-- whether a key is this text
abbrev pub is_at_text : List ℕ → String Global → Bool
is_at_text q key = is_eq (slice_cmp nat_cmp q (string_bytes key))

-- the label of a text in a list
abbrev pub label_in : List Entry → List ℕ → Option (List ℕ)
label_in es q = option_map string_bytes (lookup (is_at_text q) es)

below_last : (first : String Global) (done : List Entry) (e : Entry) (left : List Entry) → AllByRecursion (λ y. string_cmp first y ≡ Less) (keys_of (done ++ e ∷ left)) → string_cmp first e.0 ≡ Less
below_last first [] e left h = h.0
below_last first (d ∷ done) e left h = below_last first done e left h.1

-- a key is not among those before it
absent : (done : List Entry) (e : Entry) (left : List Entry) → IsStrictlySortedBy string_cmp (keys_of (done ++ e ∷ left)) → lookup (is_at_text (string_bytes e.0)) done ≡ None
unfolding IsStrictlySortedBy
absent [] e left h = refl
absent (d ∷ done) e left h =
    let above : slice_cmp nat_cmp (string_bytes e.0) (string_bytes d.0) ≡ Greater = nat_list_cmp_total.antisymm (string_bytes e.0) (string_bytes d.0) ∙ ap ordering_reverse (below_last d.0 done e left h.0) in
    rw above (absent done e left h.1)

push_here : (test : String Global → Bool) (done : List Entry) (e : Entry) → lookup test done ≡ None → test e.0 ≡ true → lookup test (done ++ e ∷ []) ≡ Some e.1
push_here test [] e n t = rw t refl
push_here test (d ∷ done) e n t = go (test d.0) refl n (push_here test done e)
  where
    go : (b : Bool) → test d.0 ≡ b → cond b (Some d.1) (lookup test done) ≡ None → (lookup test done ≡ None → test e.0 ≡ true → lookup test (done ++ e ∷ []) ≡ Some e.1)
        → cond (test d.0) (Some d.1) (lookup test (done ++ e ∷ [])) ≡ Some e.1
    go true is k rec = cc k
    go false is k rec = rw is (rec k t)

push_other : (test : String Global → Bool) (done : List Entry) (e : Entry) → test e.0 ≡ false → lookup test (done ++ e ∷ []) ≡ lookup test done
push_other test [] e t = rw t refl
push_other test (d ∷ done) e t = ap (λ r. cond (test d.0) (Some d.1) r) (push_other test done e t)

sym_false : (a b : List ℕ) → bytes_eq a b ≡ false → bytes_eq b a ≡ false
sym_false a b h = go (bytes_eq b a) refl
  where
    go : (same : Bool) → bytes_eq b a ≡ same → bytes_eq b a ≡ false
    go true is = let clash : bytes_eq a b ≡ true = (bytes_eq-Decides a b).1 (sym ((bytes_eq-Decides b a).0 is)) in cc
    go false is = is

-- the labels so far, else what was there, and one label more
pub label_more : (done : List Entry) (e : Entry) (left : List Entry) (before now next : List ℕ → Option (List ℕ)) → IsStrictlySortedBy string_cmp (keys_of (done ++ e ∷ left))
    → ((q : List ℕ) → now q ≡ option_or (label_in done q) (before q)) → Sets (string_bytes e.0) (Some (string_bytes e.1)) now next
    → (q : List ℕ) → next q ≡ option_or (label_in (done ++ e ∷ []) q) (before q)
label_more done e left before now next sorted here sets q = go (bytes_eq (string_bytes e.0) q) refl
  where
    go : (b : Bool) → bytes_eq (string_bytes e.0) q ≡ b → next q ≡ option_or (label_in (done ++ e ∷ []) q) (before q)
    go true is =
        let at : string_bytes e.0 ≡ q = (bytes_eq-Decides (string_bytes e.0) q).0 is in
        let none : lookup (is_at_text q) done ≡ None = subst (λ (t : List ℕ). lookup (is_at_text t) done ≡ None) at (absent done e left sorted) in
        let test : is_at_text q e.0 ≡ true = is_eq-slice_cmp q (string_bytes e.0) ∙ (bytes_eq-Decides q (string_bytes e.0)).1 (sym at) in
        sets q ∙ ap (λ (c : Bool). option_or (cond c (Some (string_bytes e.1)) None) (now q)) is
        ∙ sym (ap (λ (o : Option (String Global)). option_or (option_map string_bytes o) (before q)) (push_here (is_at_text q) done e none test))
    go false is =
        let test : is_at_text q e.0 ≡ false = is_eq-slice_cmp q (string_bytes e.0) ∙ sym_false (string_bytes e.0) q is in
        sets q ∙ ap (λ (c : Bool). option_or (cond c (Some (string_bytes e.1)) None) (now q)) is ∙ here q
        ∙ sym (ap (λ (o : Option (String Global)). option_or (option_map string_bytes o) (before q)) (push_other (is_at_text q) done e test))

-- all labels were written
pub whole : (all done left : List Entry) → all ≡ done ++ left → left ≡ [] → all ≡ done
whole all done left e none = e ∙ ap (λ es. done ++ es) none ∙ append-nil done

pub sets_at : (k l v w : List ℕ) (before after : List ℕ → Option (List ℕ)) → k ≡ l → v ≡ w → Sets k (Some v) before after → Sets l (Some w) before after
sets_at k l v w before after e f sets = subst (λ (x : List ℕ). Sets l (Some x) before after) f (subst (λ (x : List ℕ). Sets x (Some v) before after) e sets)

-- what a call of `insert` sets
pub looks : (m n : Map) (key value : String Global) (k v : List ℕ) → string_bytes key ≡ k → string_bytes value ≡ v
    → tree.UpdatesBy string_cmp (λ x. slice_cmp nat_cmp (string_bytes key) (string_bytes x)) m n (Some value) → Sets k (Some v) (look m) (look n)
looks m n key value k v e f u = sets_at (string_bytes key) k (string_bytes value) v (look m) (look n) e f (λ q.
    ap (option_map string_bytes) (btree_map_updates_text (string_bytes key) m n (Some value) u q) ∙ chosen (bytes_eq (string_bytes key) q) (tree.get_by_text m q))
  where
    chosen : (b : Bool) (o : Option (String Global)) → option_map string_bytes (cond b (Some value) o) ≡ option_or (cond b (Some (string_bytes value)) None) (option_map string_bytes o)
    chosen true o = refl
    chosen false o = refl

-- a map that is made where there is none
pub look_made : (annotations : Option Map) (made : Map) → made.entries ≡ [] → (q : List ℕ) → look (unwrap_or annotations made) q ≡ look_in annotations q
look_made None made e q = ap (λ (es : List Entry). option_map string_bytes (lookup (is_at_text q) es)) e
look_made (Some m) made e q = refl

pub on_ok : {T E : Type 0} (r : Result T E) (P Q : Type 0) → (P → Q) → OnOk r P → OnOk r Q
on_ok (Ok x) P Q f h = f h
on_ok (Err x) P Q f h = h
