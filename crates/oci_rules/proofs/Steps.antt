-- One part more of a list, an object or a table that is gone through.
use Rattle.std.proofs.Common.{◌≡◌, ℕ, zero, suc, ◌+◌, ◌<◌, List, [], ◌∷◌, ◌++◌, ◌||◌, Bool, bytes_eq, length, drop, not, slice_index_or, String, refl, subst, sym, ap, ◌∙◌, append_assoc, Option, Some, None, arith}
use Rattle.std.specs.declared.alloc.Global.{Global}
use Rattle.std.specs.BTreeSet.{BTreeSet, contains_text, IsEmpty}
use Rattle.serde_json.specs.Data.{Items, no_items, item}
use Rattle.serde_json.specs.Find.{as_str}
use Rattle.serde_json.specs.View.{view, items_view}
use Rattle.serde_json.specs.declared.value.Value.{Value}
use Rattle.oci_schema.specs.Places.{under_index}
use Rattle.oci_rules.specs.Rules.{Rule, Key}
use Rattle.oci_rules.specs.Parts.{key_of}
use Rattle.oci_rules.specs.Breaks.{Told}
use Rattle.oci_rules.specs.Decided.{there_and, if_any}
use Rattle.oci_rules.specs.Listed.{unless, no_text, with_text, has_text, twins, others}

drop_at : {A : Type 0} (rs : List A) (i : ℕ) (x : A) → i < length rs → drop i rs ≡ slice_index_or rs i x ∷ drop (i + 1) rs
drop_at [] i x below = absurd (omega arith)
drop_at (r ∷ rs) zero x below = refl
drop_at (r ∷ rs) (suc i) x below =
    let e : suc i + 1 ≡ suc (i + 1) = omega arith in
    drop_at rs i x (omega arith) ∙ ap (λ k. slice_index_or rs i x ∷ drop k (r ∷ rs)) (sym e)

-- the rest of a list, cut after its first element
pub cut_at : {A : Type 0} (rs : List A) (i : ℕ) (x : A) → i < length rs → x ≡ slice_index_or rs i x → drop i rs ≡ x ∷ drop (i + 1) rs
cut_at rs i x below is = drop_at rs i x below ∙ ap (λ z. z ∷ drop (i + 1) rs) (sym is)

-- what one part adds, put before what is left
more_of : (init found more one left : List Told) → found ++ (one ++ left) ≡ init → more ≡ found ++ one → more ++ left ≡ init
more_of init found more one left before e = ap (λ z. z ++ left) e ∙ append_assoc found one left ∙ before

same_and : (p q : List ℕ → Bool) → ((t : List ℕ) → p t ≡ q t) → (o : Option (List ℕ)) → there_and p o ≡ there_and q o
same_and p q is None = refl
same_and p q is (Some t) = is t

-- the same texts before list the same twins
twins_same : (r : Rule) (key : Key) (at : List ℕ) (i : ℕ) (p q : List ℕ → Bool) → ((t : List ℕ) → p t ≡ q t) → (ds : Items) → twins r key at i p ds ≡ twins r key at i q ds
twins_same r key at i p q is no_items = refl
twins_same r key at i p q is (item d ds) =
    ap (λ b. unless (not b) r (under_index at i) ++ twins r key at (i + 1) (with_text (key_of key d) p) ds) (same_and p q is (key_of key d))
    ∙ ap (λ z. unless (not (there_and q (key_of key d))) r (under_index at i) ++ z)
    (twins_same r key at (i + 1) (with_text (key_of key d) p) (with_text (key_of key d) q) (λ t. ap (λ b. there_and (bytes_eq t) (key_of key d) || b) (is t)) ds)

pub no_twins_yet : (r : Rule) (key : Key) (at : List ℕ) (s : BTreeSet (String Global)) → IsEmpty s → (ds : Items) → twins r key at 0 (contains_text s) ds ≡ twins r key at 0 no_text ds
no_twins_yet r key at s empty ds = twins_same r key at 0 (contains_text s) no_text (λ t. nothing s empty t) ds
  where
    nothing : (s : BTreeSet (String Global)) → IsEmpty s → (t : List ℕ) → contains_text s t ≡ no_text t
    nothing s e t = rw e refl

pub twin_more : (r : Rule) (key : Key) (at : List ℕ) (init found more : List Told) (seen kept : BTreeSet (String Global)) (vs all : List Value) (i : ℕ) (x : Value) → all ≡ vs → i < length all → x ≡ slice_index_or all i x
    → found ++ twins r key at i (contains_text seen) (items_view (drop i vs)) ≡ init → more ≡ found ++ unless (not (there_and (contains_text seen) (key_of key (view x)))) r (under_index at i)
    → ((q : List ℕ) → contains_text kept q ≡ with_text (key_of key (view x)) (contains_text seen) q) → more ++ twins r key at (i + 1) (contains_text kept) (items_view (drop (i + 1) vs)) ≡ init
twin_more r key at init found more seen kept vs all i x same below is before e k =
    let cut : drop i vs ≡ x ∷ drop (i + 1) vs = subst (λ (ws : List Value). drop i ws ≡ x ∷ drop (i + 1) ws) same (cut_at all i x below is) in
    let split : found ++ twins r key at i (contains_text seen) (items_view (x ∷ drop (i + 1) vs)) ≡ init =
    subst (λ (ws : List Value). found ++ twins r key at i (contains_text seen) (items_view ws) ≡ init) cut before in
    ap (λ z. more ++ z) (twins_same r key at (i + 1) (contains_text kept) (with_text (key_of key (view x)) (contains_text seen)) k (items_view (drop (i + 1) vs)))
    ∙ more_of init found more _ _ split e

-- the same, by what was found out of the item
pub twin_step : (r : Rule) (key : Key) (at : List ℕ) (init found more : List Told) (seen kept : BTreeSet (String Global)) (vs all : List Value) (i : ℕ) (x : Value) (b : Bool) (o : Option (List ℕ)) → all ≡ vs
    → i < length all → x ≡ slice_index_or all i x → found ++ twins r key at i (contains_text seen) (items_view (drop i vs)) ≡ init → b ≡ there_and (contains_text seen) o → o ≡ key_of key (view x)
    → more ≡ found ++ unless (not b) r (under_index at i) → ((q : List ℕ) → contains_text kept q ≡ with_text o (contains_text seen) q)
    → more ++ twins r key at (i + 1) (contains_text kept) (items_view (drop (i + 1) vs)) ≡ init
twin_step r key at init found more seen kept vs all i x b o same below is before hb ho e k =
    twin_more r key at init found more seen kept vs all i x same below is before
    (e ∙ ap (λ z. found ++ unless (not z) r (under_index at i)) (hb ∙ ap (there_and (contains_text seen)) ho)) (λ q. k q ∙ ap (λ z. with_text z (contains_text seen) q) ho)

same_any : (p q : List ℕ → Bool) → ((t : List ℕ) → p t ≡ q t) → (o : Option (List ℕ)) → if_any p o ≡ if_any q o
same_any p q is None = refl
same_any p q is (Some t) = is t

-- the same texts list the same others
pub others_same : (r : Rule) (p q : List ℕ → Bool) → ((t : List ℕ) → p t ≡ q t) → (at : List ℕ) (i : ℕ) (ds : Items) → others r p at i ds ≡ others r q at i ds
others_same r p q is at i no_items = refl
others_same r p q is at i (item d ds) =
    let one = same_any p q is (as_str d) in
    let rest = others_same r p q is at (i + 1) ds in
    ap (λ b. unless b r (under_index at i) ++ others r p at (i + 1) ds) one ∙ ap (λ z. unless (if_any q (as_str d)) r (under_index at i) ++ z) rest

pub others_are : (r : Rule) (s : BTreeSet (String Global)) (es : Items) (at : List ℕ) (ds : Items) (old new : List Told) → ((q : List ℕ) → contains_text s q ≡ has_text es q)
    → new ≡ old ++ others r (contains_text s) at 0 ds → new ≡ old ++ others r (has_text es) at 0 ds
others_are r s es at ds old new is e = e ∙ ap (λ z. old ++ z) (others_same r (contains_text s) (has_text es) is at 0 ds)
