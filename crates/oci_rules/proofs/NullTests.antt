-- What breaks a rule in a part is the same with members left out that are null, unless the rule asks of them.
use Rattle.std.proofs.Common.{◌≡◌, ℕ, List, [], ◌++◌, not, ◌||◌, Some, is_some, option_and_then, refl, sym, ap, ◌∙◌}
use Rattle.std.specs.Prelude.{◌==◌, nat_le}
use Rattle.std.specs.Bool.{beq}
use Rattle.serde_json.specs.Data.{Data, null}
use Rattle.serde_json.specs.Find.{as_bool, as_array}
use Rattle.oci_base.specs.Names.{is_listed}
use Rattle.oci_grammars.specs.DecidedLicenses.{has_listed}
use Rattle.oci_patterns.specs.Expressions.{has_match}
use Rattle.oci_grammars.specs.Licenses.{words_in}
use Rattle.oci_grammars.specs.Tests.{is_of}
use Rattle.oci_rules.specs.Decided.{if_any, there_and, some_item, has, is_one_of, is_item, is_in, is_so, holds, begins_with, is_at_most, are_versions, is_sum_at_most, is_as_many, has_text_under, are_apart, is_passed}
use Rattle.oci_rules.specs.Listed.{unless, shown_at, items_told, told_by}
use Rattle.oci_rules.specs.Nulls.{LeavesOutNulls, unchanged, in_items, in_members, HasNull, AsksOfNull}
use Rattle.oci_rules.specs.Parts.{present, led, items_led, extent}
use Rattle.oci_rules.specs.Rules.{the_part, the_document, Check, is_there, is_text, is_truth, is_within, has_text, has_item, Condition, asks, Test, text, spdx_identifiers, one_of, none_of, begins, matches, reserved, within, truth, there, absent, not_null, boolean_member, either, not_empty, length_at_most, at_most, versions_in_order, sum_at_most, as_many, lists, lists_item, apart, distinct, among, Rule}
use Rattle.oci_rules.proofs.Deciding.{not_null_tells}
use Rattle.oci_rules.proofs.NullReads.{Thins, str_same, bool_same, whole_same, object_same, items_alike, present_alike, null_was, items_len_same, members_len_same}
use Rattle.oci_rules.proofs.NullParts.{ap_two, there_same, any_same, items_there, items_any, has_same, text_same, whole_at_same, natural_same, led_null, led_alike, items_led_alike, some_same, all_apart_same, as_many_same, one_of_same, under_same, names_any, item_same, twins_alike, among_same}

-- ---- conditions

so_same : (check : Check) (d e : Data) → Thins d e → is_so check d ≡ is_so check e
so_same is_there d e h = refl
so_same (is_text ts) d e h = one_of_same ts d e h
so_same (is_truth b) d e h = ap (there_and (beq b)) (bool_same d e h.out)
so_same (is_within low high) d e h = ap (there_and (is_in low high)) (whole_same d e h.out)
so_same (has_text ts) d e h =
    items_there (some_item (is_one_of ts)) (some_item (is_one_of ts)) (some_same (is_one_of ts) (is_one_of ts) (one_of_same ts)) (as_array d) (as_array e) (items_alike d e h)
so_same (has_item name ts with without) d e h =
    items_there (some_item (is_item name ts with without)) (some_item (is_item name ts with without))
    (some_same (is_item name ts with without) (is_item name ts with without) (item_same name ts with without)) (as_array d) (as_array e) (items_alike d e h)

pub holds_same : (root other : Data) → Thins root other → (c : Condition) (d e : Data) → Thins d e → holds root c d ≡ holds other c e
holds_same root other all (asks the_part way wanted check) d e h =
    ap (beq wanted) (there_same (is_so check) (is_so check) (so_same check) (led way d) (led way e) (led_alike way d e h))
holds_same root other all (asks the_document way wanted check) d e h =
    ap (beq wanted) (there_same (is_so check) (is_so check) (so_same check) (led way root) (led way other) (led_alike way root other all))

-- ---- how many

extent_in : (d e : Data) → LeavesOutNulls d e → (HasNull d → ⊥) → extent d ≡ extent e
extent_in _ _ unchanged none = refl
extent_in _ _ (in_items {ds = ds} {es = es} h) none = ap Some (items_len_same ds es h)
extent_in _ _ (in_members {ms = ms} {ns = ns} h) none = ap Some (members_len_same ms ns h (λ name has. none (name, (ms, refl, has))))

-- ---- tests

passed_same : (t : Test) (d e : Data) → Thins d e → (AsksOfNull t d → ⊥) → is_passed t d ≡ is_passed t e
passed_same (text g) d e h none = ap (if_any (is_of g)) (str_same d e h.out)
passed_same (spdx_identifiers licenses exceptions) d e h none = ap (if_any (has_listed (words_in licenses) (words_in exceptions))) (str_same d e h.out)
passed_same (one_of ts) d e h none = ap (if_any (is_listed ts)) (str_same d e h.out)
passed_same (none_of ts) d e h none = ap (if_any (λ t. not (is_listed ts t))) (str_same d e h.out)
passed_same (begins front) d e h none = ap (if_any (begins_with front)) (str_same d e h.out)
passed_same (matches pattern) d e h none = ap (if_any (has_match pattern)) (str_same d e h.out)
passed_same (reserved front ts) d e h none = ap (if_any (λ t. not (begins_with front t) || is_listed ts t)) (str_same d e h.out)
passed_same (within low high) d e h none = ap (if_any (is_in low high)) (whole_same d e h.out)
passed_same (truth b) d e h none = ap (if_any (beq b)) (bool_same d e h.out)
passed_same (there name) d e h none = ap_two (λ x y. not x || y) (object_same d e h.out) (has_same name d e h)
passed_same (absent name) d e h none = ap not (has_same name d e h)
passed_same (not_null name) d e h none = (not_null_tells name d).1 none ∙ sym ((not_null_tells name e).1 (λ is. none (null_was name d e h.out is)))
passed_same (boolean_member name) d e h none =
    any_same (λ c. is_some (as_bool c)) (λ c. is_some (as_bool c)) (λ c b k. ap is_some (bool_same c b k.out)) (present name d) (present name e) (present_alike name d e h)
passed_same (either names) d e h none = ap_two (λ x y. not x || y) (object_same d e h.out) (names_any (has d) (has e) (λ name. has_same name d e h) names)
passed_same not_empty d e h none = ap (if_any (λ n. not (n == 0))) (extent_in d e h.out none)
passed_same (length_at_most most) d e h none = ap (if_any (λ n. nat_le n most)) (extent_in d e h.out none)
passed_same (at_most a b) d e h none = ap_two is_at_most (whole_at_same a d e h) (whole_at_same b d e h)
passed_same (versions_in_order a b) d e h none = ap_two are_versions (text_same a d e h) (text_same b d e h)
passed_same (sum_at_most a b most) d e h none = ap_two (is_sum_at_most most) (natural_same a d e h) (natural_same b d e h)
passed_same (as_many a name b) d e h none = as_many_same name (items_led a d) (items_led a e) (items_led_alike a d e h) (items_led b d) (items_led b e) (items_led_alike b d e h)
passed_same (lists ts) d e h none =
    items_any (some_item (is_one_of ts)) (some_item (is_one_of ts)) (some_same (is_one_of ts) (is_one_of ts) (one_of_same ts)) (as_array d) (as_array e) (items_alike d e h)
passed_same (lists_item name t) d e h none =
    items_any (some_item (has_text_under name t)) (some_item (has_text_under name t)) (some_same (has_text_under name t) (has_text_under name t) (under_same name t)) (as_array d) (as_array e)
    (items_alike d e h)
passed_same (apart name) d e h none = items_any (λ ds. are_apart name ds ds) (λ ds. are_apart name ds ds) (all_apart_same name) (as_array d) (as_array e) (items_alike d e h)
passed_same (distinct key) d e h none = refl
passed_same (among a b) d e h none = refl

items_same : (t : Test) (r : Rule) (at : List ℕ) (d e : Data) → Thins d e → items_told t r at d ≡ items_told t r at e
items_same (distinct key) r at d e h = twins_alike r key at (as_array d) (as_array e) (items_alike d e h)
items_same (among a b) r at d e h = among_same r a b at d e h
items_same _ r at d e h = refl

pub told_same : (t : Test) (r : Rule) (at : List ℕ) (d e : Data) → Thins d e → (AsksOfNull t d → ⊥) → told_by t r at d ≡ told_by t r at e
told_same t r at d e h none = ap_two (λ b told. unless b r (shown_at t at) ++ told) (passed_same t d e h none) (items_same t r at d e h)

-- of a null nothing is told, as of any value of another kind
pub null_told : (t : Test) (r : Rule) (at : List ℕ) → told_by t r at null ≡ []
null_told (as_many a name b) r at = ap (λ o. unless (is_as_many name (option_and_then as_array o) (items_led b null)) r at ++ []) (led_null a null refl)
null_told _ r at = refl
