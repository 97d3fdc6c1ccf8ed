-- Items whose texts are not among those of another list.
use Rattle.std.proofs.Common.{◌≡◌, inl, inr, ℕ, zero, suc, ◌+◌, List, [], Bool, true, false, Some, bytes_eq, refl, sym, ap, ◌∙◌, subst, true≢false, arith}
use Rattle.std.specs.Prelude.{◌↔◌, ◌⊎◌}
use Rattle.std.specs.Bool.{Decides}
use Rattle.std.specs.List.{Contains}
use Rattle.serde_json.specs.Data.{Data, Items, no_items, item}
use Rattle.serde_json.specs.Find.{as_str, get_item}
use Rattle.oci_schema.specs.Places.{under_index}
use Rattle.oci_rules.specs.Rules.{Rule}
use Rattle.oci_rules.specs.Tests.{EachItem, SomeItem, IsAmong}
use Rattle.oci_rules.specs.Breaks.{Told}
use Rattle.oci_rules.specs.Decided.{if_any, there_and}
use Rattle.oci_rules.specs.Listed.{unless, has_text, others}
use Rattle.oci_rules.proofs.Deciding.{if_any_tells, some_item_tells, text_tells}
use Rattle.oci_schema.proofs.EachPart.{nothing_in, no_some, in_both}
use Rattle.oci_rules.proofs.Found.{in_unless, no_more, none_first, none_later, none_unless}

-- whether an item's text is among those of a list
pub among_tells : (es : Items) (d : Data) → Decides (if_any (has_text es) (as_str d)) (IsAmong es d)
among_tells es d =
    if_any_tells (has_text es) (λ t. SomeItem (λ e. as_str e ≡ Some t) es)
    (λ t. some_item_tells (λ e. there_and (bytes_eq t) (as_str e)) (λ e. as_str e ≡ Some t) (λ e. text_tells t (as_str e)) es) (as_str d)

pub others_none : (r : Rule) (es : Items) (at : List ℕ) (i : ℕ) (ds : Items) → (others r (has_text es) at i ds ≡ []) ↔ EachItem (IsAmong es) ds
others_none r es at i no_items = ((λ e. tt), (λ h. refl))
others_none r es at i (item d ds) =
    let b : Bool = if_any (has_text es) (as_str d) in
    let here : List Told = unless b r (under_index at i) in
    let later : List Told = others r (has_text es) at (i + 1) ds in
    let one = none_unless b r (under_index at i) in
    let is = among_tells es d in
    let rest = others_none r es at (i + 1) ds in
    ((λ e. (is.0 (one.0 (none_first here later e)), rest.0 (none_later here later e))), (λ h. no_more here later (one.1 (is.1 h.0)) (rest.1 h.1)))

abbrev pub IsOtherAt : Rule → Items → List ℕ → ℕ → Items → Told → Type 0
IsOtherAt r es at i ds x = (j : ℕ) × (c : Data) × (get_item j ds ≡ Some c) × ((r, under_index at (i + j)) ≡ x) × (IsAmong es c → ⊥)

refused : (b : Bool) (P : Type 0) → Decides b P → (b ≡ false) ↔ (P → ⊥)
refused true P is = ((λ e. absurd (true≢false e)), (λ h. absurd (h (is.0 refl))))
refused false P is = ((λ e p. true≢false (sym (is.1 p))), (λ h. refl))

pub others_in : (r : Rule) (es : Items) (at : List ℕ) (i : ℕ) (ds : Items) (x : Told) → Contains (others r (has_text es) at i ds) x ↔ IsOtherAt r es at i ds x
others_in r es at i no_items x = ((λ h. nothing_in x h), (λ h. let (j, c, found, shown, other) = h in no_some c found))
others_in r es at i (item d ds) x =
    let b : Bool = if_any (has_text es) (as_str d) in
    let one = in_unless b r (under_index at i) x in
    let rest = others_in r es at (i + 1) ds x in
    let both = in_both (unless b r (under_index at i)) (others r (has_text es) at (i + 1) ds) x _ _ one rest in
    ((λ h. joined (both.0 h)), (λ h. both.1 (split h)))
  where
    is : (if_any (has_text es) (as_str d) ≡ false) ↔ (IsAmong es d → ⊥)
    is = refused (if_any (has_text es) (as_str d)) (IsAmong es d) (among_tells es d)

    joined : ((if_any (has_text es) (as_str d) ≡ false) × ((r, under_index at i) ≡ x)) ⊎ IsOtherAt r es at (i + 1) ds x → IsOtherAt r es at i (item d ds) x
    joined (inl h) = let z : i + 0 ≡ i = omega arith in (0, d, refl, ap (λ n. (r, under_index at n)) z ∙ h.1, is.0 h.0)
    joined (inr h) =
        let (j, c, found, shown, other) = h in
        let z : i + suc j ≡ (i + 1) + j = omega arith in
        (suc j, c, found, ap (λ n. (r, under_index at n)) z ∙ shown, other)

    split : IsOtherAt r es at i (item d ds) x → ((if_any (has_text es) (as_str d) ≡ false) × ((r, under_index at i) ≡ x)) ⊎ IsOtherAt r es at (i + 1) ds x
    split (zero, c, found, shown, other) =
        let same : d ≡ c = cc found in
        let z : i ≡ i + 0 = omega arith in
        inl (is.1 (subst (λ (z : Data). IsAmong es z → ⊥) (sym same) other), ap (λ n. (r, under_index at n)) z ∙ shown)
    split (suc j, c, found, shown, other) =
        let z : (i + 1) + j ≡ i + suc j = omega arith in
        inr (j, c, found, ap (λ n. (r, under_index at n)) z ∙ shown, other)
