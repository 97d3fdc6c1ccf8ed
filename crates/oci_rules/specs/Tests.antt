-- What conditions and tests ask. Of a part of another kind a test asks nothing: the schema tells of that.
use Rattle.std.specs.Prelude.{ℕ, ℤ, ◌≡◌, ◌≢◌, ◌≤◌, ◌<◌, ◌+◌, ◌≤ℤ◌, ◌⊎◌, ⊤, List, [], ◌∷◌, ◌++◌, Bool, true, false, Some, None, IfSome, IsSomeAnd, IsSome, IsTrue, unwrap_or}
use Rattle.serde_json.specs.Data.{Data, null, Items, no_items, item}
use Rattle.serde_json.specs.Events.{items_len}
use Rattle.serde_json.specs.Find.{as_bool, as_str, as_array, as_object, get}
use Rattle.oci_model.specs.Means.{as_whole}
use Rattle.oci_base.specs.Names.{is_listed}
use Rattle.oci_grammars.specs.Grammars.{IsOf}
use Rattle.oci_grammars.specs.Licenses.{words_in, HasListed}
use Rattle.oci_grammars.specs.Nesting.{IsInside}
use Rattle.oci_grammars.specs.Precedence.{AreInOrder}
use Rattle.oci_patterns.specs.Expressions.{HasMatch}
use Rattle.oci_rules.specs.Rules.{Origin, the_part, the_document, Check, is_there, is_text, is_truth, is_within, has_text, has_item, Condition, asks, Key, Test, text, spdx_identifiers, one_of, none_of, begins, matches, reserved, within, truth, there, absent, not_null, boolean_member, either, not_empty, length_at_most, at_most, versions_in_order, sum_at_most, as_many, lists, lists_item, apart, distinct, among}
use Rattle.oci_rules.specs.Parts.{present, led, text_at, whole_at, natural_at, items_at, items_led, without, extent, key_of}

abbrev pub EachItem : (Data → Type 0) → Items → Type 0
EachItem P no_items = ⊤
EachItem P (item d ds) = P d × EachItem P ds

abbrev pub SomeItem : (Data → Type 0) → Items → Type 0
SomeItem P no_items = ⊥
SomeItem P (item d ds) = P d ⊎ SomeItem P ds

abbrev pub EachName : (List ℕ → Type 0) → List (List ℕ) → Type 0
EachName P [] = ⊤
EachName P (name ∷ names) = P name × EachName P names

abbrev pub SomeName : (List ℕ → Type 0) → List (List ℕ) → Type 0
SomeName P [] = ⊥
SomeName P (name ∷ names) = P name ⊎ SomeName P names

abbrev pub IsThere : List ℕ → Data → Type 0
IsThere name d = IsSome (present name d)

abbrev pub IsAbsent : List ℕ → Data → Type 0
IsAbsent name d = present name d ≡ None

-- there, and no empty text
abbrev pub IsSet : List ℕ → Data → Type 0
IsSet name d = IsSomeAnd (present name d) (λ c. as_str c ≢ Some [])

-- it is a text, one of these
abbrev pub IsOneOf : List (List ℕ) → Data → Type 0
IsOneOf ts d = IsSomeAnd (as_str d) (λ t. IsTrue (is_listed ts t))

abbrev pub IsWithin : ℤ → ℤ → ℤ → Type 0
IsWithin low high z = (low ≤ℤ z) × (z ≤ℤ high)

-- ---- conditions

-- one of the texts is under the name; these members are there, and those are not; an empty text is as good as nothing
abbrev pub IsItem : List ℕ → List (List ℕ) → List (List ℕ) → List (List ℕ) → Data → Type 0
IsItem name ts with without d = IsSomeAnd (text_at name d) (λ t. IsTrue (is_listed ts t)) × (EachName (λ n. IsSet n d) with × EachName (λ n. ¬ IsSet n d) without)

abbrev pub IsSo : Check → Data → Type 0
IsSo is_there d = ⊤
IsSo (is_text ts) d = IsOneOf ts d
IsSo (is_truth b) d = as_bool d ≡ Some b
IsSo (is_within low high) d = IsSomeAnd (as_whole d) (IsWithin low high)
IsSo (has_text ts) d = IsSomeAnd (as_array d) (SomeItem (IsOneOf ts))
IsSo (has_item name ts with without) d = IsSomeAnd (as_array d) (SomeItem (IsItem name ts with without))

abbrev pub Asked : Bool → Type 0 → Type 0
Asked true P = P
Asked false P = P → ⊥

abbrev pub origin_in : Origin → Data → Data → Data
origin_in the_part root d = d
origin_in the_document root d = root

-- of a part of the document `root`
abbrev pub Holds : Data → Condition → Data → Type 0
Holds root (asks origin way holds check) d = Asked holds (IsSomeAnd (led way (origin_in origin root d)) (IsSo check))

-- ---- tests

abbrev pub BeginsWith : List ℕ → List ℕ → Type 0
BeginsWith front t = (rest : List ℕ) × (t ≡ front ++ rest)

-- the path under this name is not inside that of the first item
abbrev pub IsApart : List ℕ → Data → Data → Type 0
IsApart name c e = IfSome (text_at name c) (λ s. IfSome (text_at name e) (λ t. ¬ IsInside s t))

-- what an item is told apart by, none behind it has
abbrev pub AreDistinct : Key → Items → Type 0
AreDistinct key no_items = ⊤
AreDistinct key (item d ds) = IfSome (key_of key d) (λ t. EachItem (λ e. key_of key e ≢ Some t) ds) × AreDistinct key ds

-- the text of the item, if it has one, is the text of one of these
abbrev pub IsAmong : Items → Data → Type 0
IsAmong ds d = IfSome (as_str d) (λ t. SomeItem (λ e. as_str e ≡ Some t) ds)

abbrev pub Passes : Test → Data → Type 0
Passes (text g) d = IfSome (as_str d) (IsOf g)
Passes (spdx_identifiers licenses exceptions) d = IfSome (as_str d) (HasListed (words_in licenses) (words_in exceptions))
Passes (one_of ts) d = IfSome (as_str d) (λ t. IsTrue (is_listed ts t))
Passes (none_of ts) d = IfSome (as_str d) (λ t. IsTrue (is_listed ts t) → ⊥)
Passes (begins front) d = IfSome (as_str d) (BeginsWith front)
Passes (matches pattern) d = IfSome (as_str d) (HasMatch pattern)
Passes (reserved front ts) d = IfSome (as_str d) (λ t. BeginsWith front t → IsTrue (is_listed ts t))
Passes (within low high) d = IfSome (as_whole d) (IsWithin low high)
Passes (truth b) d = IfSome (as_bool d) (λ c. c ≡ b)
Passes (there name) d = IfSome (as_object d) (λ ms. IsThere name d)
Passes (absent name) d = IsAbsent name d
Passes (not_null name) d = get name d ≢ Some null
Passes (boolean_member name) d = IfSome (present name d) (λ c. IsSome (as_bool c))
Passes (either names) d = IfSome (as_object d) (λ ms. SomeName (λ n. IsThere n d) names)
Passes not_empty d = IfSome (extent d) (λ n. 0 < n)
Passes (length_at_most most) d = IfSome (extent d) (λ n. n ≤ most)
Passes (at_most a b) d = IfSome (whole_at a d) (λ x. IfSome (whole_at b d) (λ y. x ≤ℤ y))
Passes (versions_in_order a b) d = IfSome (text_at a d) (λ s. IfSome (text_at b d) (λ t. AreInOrder s t))
Passes (sum_at_most a b most) d = IfSome (natural_at a d) (λ x. IfSome (natural_at b d) (λ y. x + y ≤ most))
Passes (as_many a name b) d = IfSome (items_led a d) (λ ds. IfSome (items_led b d) (λ es. without name ds ≡ items_len es))
Passes (lists ts) d = IfSome (as_array d) (SomeItem (IsOneOf ts))
Passes (lists_item name t) d = IfSome (as_array d) (SomeItem (λ e. text_at name e ≡ Some t))
Passes (apart name) d = IfSome (as_array d) (λ ds. EachItem (λ c. EachItem (IsApart name c) ds) ds)
Passes (distinct key) d = IfSome (as_array d) (AreDistinct key)
Passes (among a b) d = IfSome (items_at a d) (EachItem (IsAmong (unwrap_or (items_at b d) no_items)))
