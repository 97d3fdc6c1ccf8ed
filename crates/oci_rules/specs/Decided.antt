-- What conditions and tests come to, as computations. That they are what conditions and tests ask is proved.
use Rattle.std.specs.Prelude.{ℕ, ◌+◌, ◌&&◌, ◌||◌, ◌==◌, ℤ, int_le, nat_le, List, length, Bool, true, false, not, bytes_eq, Option, Some, None, is_some}
use Rattle.std.specs.Bool.{beq, nat_eq}
use Rattle.std.specs.List.{list_any, list_all, starts_with}
use Rattle.serde_json.specs.Data.{Data, Items, no_items, item}
use Rattle.serde_json.specs.Events.{items_len}
use Rattle.serde_json.specs.Find.{as_bool, as_null, as_str, as_array, get}
use Rattle.oci_model.specs.Means.{as_whole, is_object}
use Rattle.oci_base.specs.Names.{is_listed}
use Rattle.oci_grammars.specs.DecidedLicenses.{has_listed}
use Rattle.oci_grammars.specs.DecidedNesting.{is_inside}
use Rattle.oci_grammars.specs.DecidedPrecedence.{are_in_order}
use Rattle.oci_grammars.specs.Licenses.{words_in}
use Rattle.oci_grammars.specs.Tests.{is_of}
use Rattle.oci_patterns.specs.Expressions.{has_match}
use Rattle.oci_rules.specs.Rules.{Check, is_there, is_text, is_truth, is_within, has_text, has_item, Condition, asks, Test, text, spdx_identifiers, one_of, none_of, begins, matches, reserved, within, truth, there, absent, not_null, boolean_member, either, not_empty, length_at_most, at_most, versions_in_order, sum_at_most, as_many, lists, lists_item, apart, distinct, among}
use Rattle.oci_rules.specs.Parts.{present, led, text_at, whole_at, natural_at, items_led, without, extent}
use Rattle.oci_rules.specs.Tests.{origin_in}

-- of a value, if there is one
abbrev pub if_any : {A : Type 0} → (A → Bool) → Option A → Bool
if_any f None = true
if_any f (Some x) = f x

-- there is a value, and of it
abbrev pub there_and : {A : Type 0} → (A → Bool) → Option A → Bool
there_and f None = false
there_and f (Some x) = f x

abbrev pub some_item : (Data → Bool) → Items → Bool
some_item f no_items = false
some_item f (item d ds) = f d || some_item f ds

abbrev pub has : Data → List ℕ → Bool
has d name = is_some (present name d)

abbrev pub lacks : Data → List ℕ → Bool
lacks d name = not (is_some (present name d))

abbrev pub is_empty : Data → Bool
is_empty d = there_and (λ t. length t == 0) (as_str d)

abbrev pub is_set : Data → List ℕ → Bool
is_set d name = there_and (λ c. not (is_empty c)) (present name d)

abbrev pub is_unset : Data → List ℕ → Bool
is_unset d name = not (is_set d name)

abbrev pub has_null : List ℕ → Data → Bool
has_null name d = there_and (λ c. is_some (as_null c)) (get name d)

abbrev pub is_one_of : List (List ℕ) → Data → Bool
is_one_of ts d = there_and (is_listed ts) (as_str d)

abbrev pub is_in : ℤ → ℤ → ℤ → Bool
is_in low high z = int_le low z && int_le z high

-- ---- conditions

abbrev pub is_item : List ℕ → List (List ℕ) → List (List ℕ) → List (List ℕ) → Data → Bool
is_item name ts with without d = there_and (is_listed ts) (text_at name d) && (list_all (is_set d) with && list_all (is_unset d) without)

abbrev pub is_so : Check → Data → Bool
is_so is_there d = true
is_so (is_text ts) d = is_one_of ts d
is_so (is_truth b) d = there_and (beq b) (as_bool d)
is_so (is_within low high) d = there_and (is_in low high) (as_whole d)
is_so (has_text ts) d = there_and (some_item (is_one_of ts)) (as_array d)
is_so (has_item name ts with without) d = there_and (some_item (is_item name ts with without)) (as_array d)

abbrev pub holds : Data → Condition → Data → Bool
holds root (asks origin way wanted check) d = beq wanted (there_and (is_so check) (led way (origin_in origin root d)))

-- ---- tests

abbrev pub begins_with : List ℕ → List ℕ → Bool
begins_with front t = starts_with nat_eq t front

abbrev pub is_at_most : Option ℤ → Option ℤ → Bool
is_at_most x y = if_any (λ a. if_any (λ b. int_le a b) y) x

abbrev pub are_versions : Option (List ℕ) → Option (List ℕ) → Bool
are_versions x y = if_any (λ s. if_any (λ t. are_in_order s t) y) x

abbrev pub is_sum_at_most : ℕ → Option ℕ → Option ℕ → Bool
is_sum_at_most most x y = if_any (λ a. if_any (λ b. nat_le (a + b) most) y) x

abbrev pub is_as_many : List ℕ → Option Items → Option Items → Bool
is_as_many name x y = if_any (λ ds. if_any (λ es. without name ds == items_len es) y) x

abbrev pub has_text_under : List ℕ → List ℕ → Data → Bool
has_text_under name t d = there_and (bytes_eq t) (text_at name d)

abbrev pub all_items : (Data → Bool) → Items → Bool
all_items f no_items = true
all_items f (item d ds) = f d && all_items f ds

abbrev pub is_apart : List ℕ → Data → Data → Bool
is_apart name c e = if_any (λ s. if_any (λ t. not (is_inside s t)) (text_at name e)) (text_at name c)

-- each of the second items is apart from each of the first
abbrev pub are_apart : List ℕ → Items → Items → Bool
are_apart name ds es = all_items (λ c. all_items (is_apart name c) ds) es

-- of the two tests of items, that of whole lists stands with what it lists
abbrev pub is_passed : Test → Data → Bool
is_passed (text g) d = if_any (is_of g) (as_str d)
is_passed (spdx_identifiers licenses exceptions) d = if_any (has_listed (words_in licenses) (words_in exceptions)) (as_str d)
is_passed (one_of ts) d = if_any (is_listed ts) (as_str d)
is_passed (none_of ts) d = if_any (λ t. not (is_listed ts t)) (as_str d)
is_passed (begins front) d = if_any (begins_with front) (as_str d)
is_passed (matches pattern) d = if_any (has_match pattern) (as_str d)
is_passed (reserved front ts) d = if_any (λ t. not (begins_with front t) || is_listed ts t) (as_str d)
is_passed (within low high) d = if_any (is_in low high) (as_whole d)
is_passed (truth b) d = if_any (beq b) (as_bool d)
is_passed (there name) d = not (is_object d) || has d name
is_passed (absent name) d = lacks d name
is_passed (not_null name) d = not (has_null name d)
is_passed (boolean_member name) d = if_any (λ c. is_some (as_bool c)) (present name d)
is_passed (either names) d = not (is_object d) || list_any (has d) names
is_passed not_empty d = if_any (λ n. not (n == 0)) (extent d)
is_passed (length_at_most most) d = if_any (λ n. nat_le n most) (extent d)
is_passed (at_most a b) d = is_at_most (whole_at a d) (whole_at b d)
is_passed (versions_in_order a b) d = are_versions (text_at a d) (text_at b d)
is_passed (sum_at_most a b most) d = is_sum_at_most most (natural_at a d) (natural_at b d)
is_passed (as_many a name b) d = is_as_many name (items_led a d) (items_led b d)
is_passed (lists ts) d = if_any (some_item (is_one_of ts)) (as_array d)
is_passed (lists_item name t) d = if_any (some_item (has_text_under name t)) (as_array d)
is_passed (apart name) d = if_any (λ ds. are_apart name ds ds) (as_array d)
is_passed (distinct key) d = true
is_passed (among a b) d = true
