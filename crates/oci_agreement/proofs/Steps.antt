-- One part more of the lists that are gone through.
use Rattle.std.proofs.Common.{◌≡◌, ℕ, zero, suc, ◌+◌, ◌<◌, ◌≤◌, List, [], ◌∷◌, ◌++◌, Bool, ◌&&◌, length, drop, min, slice_index_or, Option, Some, None, refl, sym, ap, ◌∙◌, append_assoc, arith}
use Rattle.serde_json.specs.Data.{Data, Items, no_items, item, Members, member}
use Rattle.serde_json.specs.Find.{as_str}
use Rattle.serde_json.specs.View.{view, items_view}
use Rattle.serde_json.specs.declared.value.Value.{Value}
use Rattle.oci_rules.specs.Decided.{if_any, all_items}
use Rattle.oci_rules.specs.Listed.{has_text}
use Rattle.oci_rules.proofs.Steps.{cut_at}
use Rattle.oci_agreement.specs.Listed.{Told, texts_told, is_same_digest, plain_digest, diff_id_seat, diff_ids_told, of_keys, have_same_texts}

-- ---- layers and DiffIDs

pub pairs_more : (old new : List Told) (i : ℕ) (xs ys : List Value) (x y : Value) → i < length xs → x ≡ slice_index_or xs i x → i < length ys → y ≡ slice_index_or ys i y
    → new ≡ old ++ texts_told is_same_digest (diff_id_seat i) (plain_digest (view x)) (as_str (view y))
    → new ++ diff_ids_told (i + 1) (items_view (drop (i + 1) xs)) (items_view (drop (i + 1) ys)) ≡ old ++ diff_ids_told i (items_view (drop i xs)) (items_view (drop i ys))
pairs_more old new i xs ys x y bx ex by ey added =
    let one : List Told = texts_told is_same_digest (diff_id_seat i) (plain_digest (view x)) (as_str (view y)) in
    let rest : List Told = diff_ids_told (i + 1) (items_view (drop (i + 1) xs)) (items_view (drop (i + 1) ys)) in
    let cx : drop i xs ≡ x ∷ drop (i + 1) xs = cut_at xs i x bx ex in
    let cy : drop i ys ≡ y ∷ drop (i + 1) ys = cut_at ys i y by ey in
    ap (λ z. z ++ rest) added ∙ append_assoc old one rest ∙ ap (λ vs. old ++ diff_ids_told i (items_view vs) (items_view (y ∷ drop (i + 1) ys))) (sym cx)
    ∙ ap (λ vs. old ++ diff_ids_told i (items_view (drop i xs)) (items_view vs)) (sym cy)

no_ids : (n : ℕ) (ds : Items) → diff_ids_told n ds no_items ≡ []
no_ids n no_items = refl
no_ids n (item d ds) = refl

-- where one of the lists has ended, nothing more is told
pub pairs_done : (n i : ℕ) (xs ys : List Value) → min (length xs) (length ys) ≤ i → diff_ids_told n (items_view (drop i xs)) (items_view (drop i ys)) ≡ []
pairs_done n zero [] ys h = refl
pairs_done n (suc i) [] ys h = refl
pairs_done n zero (x ∷ xs) [] h = refl
pairs_done n (suc i) (x ∷ xs) [] h = no_ids n (items_view (drop i xs))
pairs_done n zero (x ∷ xs) (y ∷ ys) h = absurd (omega arith)
pairs_done n (suc i) (x ∷ xs) (y ∷ ys) h = pairs_done n i xs ys (omega arith)

-- ---- keys

pub keys_more : (f : List ℕ → List Told) (old new : List Told) (key : List ℕ) → new ≡ old ++ f key → (k : List ℕ) (d : Data) (ms left : Members) → ms ≡ member k d left → key ≡ k
    → new ++ of_keys f left ≡ old ++ of_keys f ms
keys_more f old new key added k d ms left cut same =
    ap (λ z. z ++ of_keys f left) added ∙ append_assoc old (f key) (of_keys f left) ∙ ap (λ p. old ++ (f p ++ of_keys f left)) same ∙ ap (λ es. old ++ of_keys f es) (sym cut)

-- ---- texts

same_any : (p q : List ℕ → Bool) → ((t : List ℕ) → p t ≡ q t) → (o : Option (List ℕ)) → if_any p o ≡ if_any q o
same_any p q is None = refl
same_any p q is (Some t) = is t

-- the same texts are known of all items
same_known : (p q : List ℕ → Bool) → ((t : List ℕ) → p t ≡ q t) → (ds : Items) → all_items (λ d. if_any p (as_str d)) ds ≡ all_items (λ d. if_any q (as_str d)) ds
same_known p q is no_items = refl
same_known p q is (item d ds) =
    ap (λ b. b && all_items (λ e. if_any p (as_str e)) ds) (same_any p q is (as_str d)) ∙ ap (λ b. if_any q (as_str d) && b) (same_known p q is ds)

pub texts_same : (p q : List ℕ → Bool) (ds es : Items) → ((t : List ℕ) → p t ≡ has_text ds t) → ((t : List ℕ) → q t ≡ has_text es t)
    → (all_items (λ d. if_any q (as_str d)) ds && all_items (λ e. if_any p (as_str e)) es) ≡ have_same_texts ds es
texts_same p q ds es one other =
    ap (λ b. b && all_items (λ e. if_any p (as_str e)) es) (same_known q (has_text es) other ds) ∙ ap (λ b. all_items (λ d. if_any (has_text es) (as_str d)) ds && b) (same_known p (has_text ds) one es)
