-- What is told of one part.
use Rattle.std.proofs.Common.{◌≡◌, ℕ, ◌+◌, List, [], ◌++◌, Bool, true, false, not, ◌||◌, Option, Some, None, IfSome, unwrap_or, is_some, refl, sym, ap, ◌∙◌, subst, true≢false, arith}
use Rattle.std.specs.Prelude.{◌↔◌, ◌<◌, ◌≤◌, ◌≤ℤ◌, IsSome, IsTrue, ◌==◌, int_le, nat_le}
use Rattle.std.specs.Bool.{Decides, beq}
use Rattle.std.specs.Cmp.{booleans_Decides}
use Rattle.std.specs.List.{Contains, list_any}
use Rattle.std.proofs.lemmas.Bool.Decides.{Decides-not}
use Rattle.serde_json.specs.Data.{Data, Items, no_items}
use Rattle.serde_json.specs.Find.{as_bool, as_str, as_array, as_object, get_item}
use Rattle.oci_model.specs.Means.{as_whole, is_object}
use Rattle.oci_base.specs.Names.{is_listed}
use Rattle.oci_schema.specs.Places.{under_name, under_index}
use Rattle.oci_grammars.specs.DecidedLicenses.{has_listed}
use Rattle.oci_grammars.specs.DecidedPrecedence.{are_in_order}
use Rattle.oci_grammars.specs.Grammars.{IsOf}
use Rattle.oci_grammars.specs.Licenses.{words_in, HasListed}
use Rattle.oci_grammars.specs.Precedence.{AreInOrder}
use Rattle.oci_patterns.specs.Expressions.{HasMatch, has_match}
use Rattle.oci_rules.specs.Rules.{Key, Test, text, spdx_identifiers, one_of, none_of, begins, matches, reserved, within, truth, there, absent, not_null, boolean_member, either, not_empty, length_at_most, at_most, versions_in_order, sum_at_most, as_many, lists, lists_item, apart, distinct, among, Rule}
use Rattle.oci_rules.specs.Parts.{present, text_at, whole_at, natural_at, items_at, items_led, extent}
use Rattle.oci_rules.specs.Tests.{SomeItem, SomeName, EachItem, IsThere, IsOneOf, IsWithin, BeginsWith, IsAmong, AreDistinct, Passes}
use Rattle.oci_rules.specs.Breaks.{Told, Shows, HasEarlier, IsOther}
use Rattle.oci_grammars.specs.Tests.{is_of}
use Rattle.oci_rules.specs.Decided.{if_any, some_item, has, is_one_of, is_in, begins_with, has_text_under, is_passed}
use Rattle.oci_rules.specs.Listed.{unless, twins_of, others_of, has_text, told_by}
use Rattle.oci_rules.proofs.Deciding.{clash, itself, if_any_tells, some_item_tells, some_name_tells, has_tells, lacks_tells, not_null_tells, as_many_tells, all_apart_tells, one_of_tells, int_tells, nat_tells, some_tells, in_tells, begins_tells, text_tells, then_tells}
use Rattle.oci_grammars.proofs.Grammars.{is_of_decides}
use Rattle.oci_grammars.proofs.LicenseLists.{has_listed_decides}
use Rattle.oci_grammars.proofs.VersionOrder.{in_order_decides}
use Rattle.oci_patterns.proofs.Matching.{has_match_tells}
use Rattle.oci_schema.proofs.EachPart.{nothing_in}
use Rattle.oci_rules.proofs.Found.{not_nil, in_unless, none_of as no_item_of}
use Rattle.oci_rules.proofs.Others.{others_none, others_in}
use Rattle.oci_rules.proofs.Twins.{twins_none, twins_found}

-- what is told of a part: the rule, that the part does not pass, and what is shown of it
abbrev pub Fails : Test → Rule → List ℕ → Data → Told → Type 0
Fails t r at d x = (x.0 ≡ r) × (Passes t d → ⊥) × Shows t at d x.1

-- nothing is told exactly where it passes, and else what fails, exactly
abbrev pub Law : Test → Rule → List ℕ → Data → Type 0
Law t r at d = ((told_by t r at d ≡ []) ↔ Passes t d) × ((x : Told) → Contains (told_by t r at d) x ↔ Fails t r at d x)

same_told : (r q : Rule) (s t : List ℕ) → q ≡ r → t ≡ s → ◌≡◌ {A = Told} (r, s) (q, t)
same_told r q s t e f = rw (e, f) refl

-- ---- tests of the part alone

alone : (b : Bool) (P : Type 0) (r : Rule) (s : List ℕ) → Decides b P
    → ((unless b r s ++ [] ≡ []) ↔ P) × ((x : Told) → Contains (unless b r s ++ []) x ↔ ((x.0 ≡ r) × (P → ⊥) × (x.1 ≡ s)))
alone true P r s is = (((λ e. is.0 refl), (λ p. refl)), (λ x. ((λ h. nothing_in x h), (λ h. absurd (h.1 (is.0 refl))))))
alone false P r s is = (((λ e. not_nil (r, s) [] e), (λ p. clash (is.1 p))), (λ x. ((λ h. there x ((in_unless false r s x).0 h).1), (λ h. (in_unless false r s x).1 (refl, back x h)))))
  where
    there : (x : Told) → (r, s) ≡ x → (x.0 ≡ r) × (P → ⊥) × (x.1 ≡ s)
    there x e = (ap (λ (y : Told). y.0) (sym e), (λ p. true≢false (sym (is.1 p))), ap (λ (y : Told). y.1) (sym e))

    back : (x : Told) → (x.0 ≡ r) × (P → ⊥) × (x.1 ≡ s) → (r, s) ≡ x
    back (q, t) h = same_told r q s t h.0 h.2

-- of an object alone
object_tells : (b : Bool) (P : Type 0) (d : Data) → Decides b P → Decides (not (is_object d) || b) (IfSome (as_object d) (λ ms. P))
object_tells b P d is = go (as_object d)
  where
    go : {A : Type 0} (o : Option A) → Decides (not (is_some o) || b) (IfSome o (λ x. P))
    go None = ((λ e. tt), (λ h. refl))
    go (Some x) = is

same_tells : (b c : Bool) → Decides (beq b c) (c ≡ b)
same_tells b c = let is = booleans_Decides b c in ((λ e. sym (is.0 e)), (λ h. is.1 (sym h)))

-- ---- tests of items

no_twins : (r : Rule) (key : Key) (at : List ℕ) (o : Option Items) → (twins_of r key at o ≡ []) ↔ IfSome o (AreDistinct key)
no_twins r key at None = ((λ e. tt), (λ h. refl))
no_twins r key at (Some ds) = twins_none r key at ds

items_same : (es ds : Items) → Some es ≡ Some ds → es ≡ ds
items_same es ds e = cc e

distinct_law : (key : Key) (r : Rule) (at : List ℕ) (d : Data) → Law (distinct key) r at d
distinct_law key r at d = (none, λ x. (there x, back x))
  where
    none : (twins_of r key at (as_array d) ≡ []) ↔ IfSome (as_array d) (AreDistinct key)
    none = no_twins r key at (as_array d)

    from : (o : Option Items) → as_array d ≡ o → (x : Told) → Contains (twins_of r key at o) x → (x.0 ≡ r) × ((i : ℕ) × (x.1 ≡ under_index at i) × HasEarlier key i d)
    from None e x h = nothing_in x h
    from (Some ds) e x h =
        let (j, c, t, found, has, shown, earlier) = (twins_found r key at ds x).0 h in
        let (k, b, below, before, same) = earlier in
        (ap (λ (y : Told). y.0) (sym shown), (j, ap (λ (y : Told). y.1) (sym shown), (k, b, c, t, below, (ds, e, before), (ds, e, found), same, has)))

    there : (x : Told) → Contains (twins_of r key at (as_array d)) x → Fails (distinct key) r at d x
    there x h =
        let so = from (as_array d) refl x h in
        (so.0, (λ p. no_item_of (twins_of r key at (as_array d)) x (none.1 p) h), so.1)

    to : (x : Told) → x.0 ≡ r → (i : ℕ) → x.1 ≡ under_index at i → HasEarlier key i d → Contains (twins_of r key at (as_array d)) x
    to (q, s) e i f h =
        let (k, b, c, t, below, before, found, same, has) = h in
        let (es, ae, before_at) = before in
        let (ds, ad, found_at) = found in
        let one : es ≡ ds = items_same es ds (sym ae ∙ ad) in
        let first : get_item k ds ≡ Some b = subst (λ (z : Items). get_item k z ≡ Some b) one before_at in
        let shown = same_told r q (under_index at i) s e f in
        subst (λ (o : Option Items). Contains (twins_of r key at o) (q, s)) (sym ad) ((twins_found r key at ds (q, s)).1 (i, c, t, found_at, has, shown, (k, b, below, first, same)))

    back : (x : Told) → Fails (distinct key) r at d x → Contains (twins_of r key at (as_array d)) x
    back x h = let (i, f, earlier) = h.2 in to x h.0 i f earlier

among_law : (a b : List ℕ) (r : Rule) (at : List ℕ) (d : Data) → Law (among a b) r at d
among_law a b r at d = (none (items_at a d), λ x. (there x, back x))
  where
    none : (o : Option Items) → (others_of r (has_text (unwrap_or (items_at b d) no_items)) (under_name at a) o ≡ []) ↔ IfSome o (EachItem (IsAmong (unwrap_or (items_at b d) no_items)))
    none None = ((λ e. tt), (λ h. refl))
    none (Some ds) = others_none r (unwrap_or (items_at b d) no_items) (under_name at a) 0 ds

    from : (o : Option Items) → items_at a d ≡ o → (x : Told) → Contains (others_of r (has_text (unwrap_or (items_at b d) no_items)) (under_name at a) o) x
        → (x.0 ≡ r) × ((i : ℕ) × (x.1 ≡ under_index (under_name at a) i) × IsOther a b i d)
    from None e x h = nothing_in x h
    from (Some ds) e x h =
        let (j, c, found, shown, other) = (others_in r (unwrap_or (items_at b d) no_items) (under_name at a) 0 ds x).0 h in
        let z : 0 + j ≡ j = omega arith in
        (ap (λ (y : Told). y.0) (sym shown), (j, ap (λ (y : Told). y.1) (sym shown) ∙ ap (under_index (under_name at a)) z, (ds, c, e, found, other)))

    there : (x : Told) → Contains (others_of r (has_text (unwrap_or (items_at b d) no_items)) (under_name at a) (items_at a d)) x → Fails (among a b) r at d x
    there x h =
        let so = from (items_at a d) refl x h in
        (so.0, (λ p. no_item_of (others_of r (has_text (unwrap_or (items_at b d) no_items)) (under_name at a) (items_at a d)) x ((none (items_at a d)).1 p) h), so.1)

    to : (x : Told) → x.0 ≡ r → (i : ℕ) → x.1 ≡ under_index (under_name at a) i → IsOther a b i d → Contains (others_of r (has_text (unwrap_or (items_at b d) no_items)) (under_name at a) (items_at a d)) x
    to (q, s) e i f h =
        let (ds, c, ad, found, other) = h in
        let z : i ≡ 0 + i = omega arith in
        let shown = same_told r q (under_index (under_name at a) (0 + i)) s e (f ∙ ap (under_index (under_name at a)) z) in
        subst (λ (o : Option Items). Contains (others_of r (has_text (unwrap_or (items_at b d) no_items)) (under_name at a) o) (q, s)) (sym ad) ((others_in r (unwrap_or (items_at b d) no_items) (under_name at a) 0 ds (q, s)).1 (i, c, found, shown, other))

    back : (x : Told) → Fails (among a b) r at d x → Contains (others_of r (has_text (unwrap_or (items_at b d) no_items)) (under_name at a) (items_at a d)) x
    back x h = let (i, f, other) = h.2 in to x h.0 i f other

-- ---- all tests

pub law : (t : Test) (r : Rule) (at : List ℕ) (d : Data) → Law t r at d
law (text g) r at d = alone (is_passed (text g) d) (Passes (text g) d) r at (if_any_tells (is_of g) (IsOf g) (is_of_decides g) (as_str d))
law (spdx_identifiers licenses exceptions) r at d =
    alone (is_passed (spdx_identifiers licenses exceptions) d) (Passes (spdx_identifiers licenses exceptions) d) r at
    (if_any_tells (has_listed (words_in licenses) (words_in exceptions)) (HasListed (words_in licenses) (words_in exceptions)) (has_listed_decides (words_in licenses) (words_in exceptions)) (as_str d))
law (one_of ts) r at d = alone (is_passed (one_of ts) d) (Passes (one_of ts) d) r at (if_any_tells (is_listed ts) (λ t. IsTrue (is_listed ts t)) (λ t. itself (is_listed ts t)) (as_str d))
law (none_of ts) r at d =
    alone (is_passed (none_of ts) d) (Passes (none_of ts) d) r at
    (if_any_tells (λ t. not (is_listed ts t)) (λ t. IsTrue (is_listed ts t) → ⊥) (λ t. Decides-not (is_listed ts t) (itself (is_listed ts t))) (as_str d))
law (begins front) r at d = alone (is_passed (begins front) d) (Passes (begins front) d) r at (if_any_tells (begins_with front) (BeginsWith front) (begins_tells front) (as_str d))
law (matches pattern) r at d = alone (is_passed (matches pattern) d) (Passes (matches pattern) d) r at (if_any_tells (has_match pattern) (HasMatch pattern) (has_match_tells pattern) (as_str d))
law (reserved front ts) r at d =
    alone (is_passed (reserved front ts) d) (Passes (reserved front ts) d) r at
    (if_any_tells (λ t. not (begins_with front t) || is_listed ts t) (λ t. BeginsWith front t → IsTrue (is_listed ts t))
    (λ t. then_tells (begins_with front t) (is_listed ts t) (BeginsWith front t) (IsTrue (is_listed ts t)) (begins_tells front t) (itself (is_listed ts t))) (as_str d))
law (within low high) r at d = alone (is_passed (within low high) d) (Passes (within low high) d) r at (if_any_tells (is_in low high) (IsWithin low high) (in_tells low high) (as_whole d))
law (truth b) r at d = alone (is_passed (truth b) d) (Passes (truth b) d) r at (if_any_tells (beq b) (λ c. c ≡ b) (same_tells b) (as_bool d))
law (there name) r at d = alone (is_passed (there name) d) (Passes (there name) d) r (under_name at name) (object_tells (has d name) (IsThere name d) d (has_tells d name))
law (absent name) r at d = alone (is_passed (absent name) d) (Passes (absent name) d) r (under_name at name) (lacks_tells d name)
law (not_null name) r at d = alone (is_passed (not_null name) d) (Passes (not_null name) d) r (under_name at name) (not_null_tells name d)
law (boolean_member name) r at d =
    alone (is_passed (boolean_member name) d) (Passes (boolean_member name) d) r (under_name at name)
    (if_any_tells (λ c. is_some (as_bool c)) (λ c. IsSome (as_bool c)) (λ c. itself (is_some (as_bool c))) (present name d))
law (either names) r at d =
    alone (is_passed (either names) d) (Passes (either names) d) r at
    (object_tells (list_any (has d) names) (SomeName (λ n. IsThere n d) names) d (some_name_tells (has d) (λ n. IsThere n d) (has_tells d) names))
law not_empty r at d = alone (is_passed not_empty d) (Passes not_empty d) r at (if_any_tells (λ n. not (n == 0)) (λ n. 0 < n) some_tells (extent d))
law (length_at_most most) r at d = alone (is_passed (length_at_most most) d) (Passes (length_at_most most) d) r at (if_any_tells (λ n. nat_le n most) (λ n. n ≤ most) (λ n. nat_tells n most) (extent d))
law (at_most a b) r at d =
    alone (is_passed (at_most a b) d) (Passes (at_most a b) d) r (under_name at a)
    (if_any_tells (λ x. if_any (λ y. int_le x y) (whole_at b d)) (λ x. IfSome (whole_at b d) (λ y. x ≤ℤ y)) (λ x. if_any_tells (λ y. int_le x y) (λ y. x ≤ℤ y) (int_tells x) (whole_at b d)) (whole_at a d))
law (versions_in_order a b) r at d =
    alone (is_passed (versions_in_order a b) d) (Passes (versions_in_order a b) d) r (under_name at a)
    (if_any_tells (λ s. if_any (λ t. are_in_order s t) (text_at b d)) (λ s. IfSome (text_at b d) (λ t. AreInOrder s t))
    (λ s. if_any_tells (λ t. are_in_order s t) (λ t. AreInOrder s t) (in_order_decides s) (text_at b d)) (text_at a d))
law (sum_at_most a b most) r at d =
    alone (is_passed (sum_at_most a b most) d) (Passes (sum_at_most a b most) d) r at
    (if_any_tells (λ x. if_any (λ y. nat_le (x + y) most) (natural_at b d)) (λ x. IfSome (natural_at b d) (λ y. x + y ≤ most))
    (λ x. if_any_tells (λ y. nat_le (x + y) most) (λ y. x + y ≤ most) (λ y. nat_tells (x + y) most) (natural_at b d)) (natural_at a d))
law (as_many a name b) r at d = alone (is_passed (as_many a name b) d) (Passes (as_many a name b) d) r at (as_many_tells name (items_led a d) (items_led b d))
law (lists ts) r at d =
    alone (is_passed (lists ts) d) (Passes (lists ts) d) r at (if_any_tells (some_item (is_one_of ts)) (SomeItem (IsOneOf ts)) (some_item_tells (is_one_of ts) (IsOneOf ts) (one_of_tells ts)) (as_array d))
law (lists_item name t) r at d =
    alone (is_passed (lists_item name t) d) (Passes (lists_item name t) d) r at
    (if_any_tells (some_item (has_text_under name t)) (SomeItem (λ e. text_at name e ≡ Some t)) (some_item_tells (has_text_under name t) (λ e. text_at name e ≡ Some t) (λ e. text_tells t (text_at name e))) (as_array d))
law (apart name) r at d = alone (is_passed (apart name) d) (Passes (apart name) d) r at (all_apart_tells name (as_array d))
law (distinct key) r at d = distinct_law key r at d
law (among a b) r at d = among_law a b r at d
