-- What breaks rules, in order: rule by rule, and part by part.
use Rattle.std.specs.Prelude.{ℕ, ◌+◌, ◌||◌, Bool, false, not, bytes_eq, if◌then◌else◌, List, [], ◌∷◌, ◌++◌, Option, Some, None, unwrap_or}
use Rattle.serde_json.specs.Data.{Data, string, Items, no_items, item, Members, no_members, member}
use Rattle.serde_json.specs.Find.{as_str, as_array, as_object}
use Rattle.oci_schema.specs.EachPart.{of_part, of_items, of_members}
use Rattle.oci_schema.specs.Places.{under_name, under_index}
use Rattle.oci_rules.specs.Rules.{Platform, Key, Test, there, absent, at_most, distinct, among, Place, here, under, each_item, each_member, each_name, if_so, Rule}
use Rattle.oci_rules.specs.Rules as rules
use Rattle.oci_rules.specs.Parts.{present, items_at, key_of}
use Rattle.oci_rules.specs.Breaks.{Told}
use Rattle.oci_rules.specs.Decided.{if_any, there_and, some_item, holds, is_passed}
use Rattle.oci_rules.specs.Platforms.{is_for}

abbrev pub unless : Bool → Rule → List ℕ → List Told
unless kept r at = if kept then [] else (r, at) ∷ []

-- ---- one part

-- the pointer of what is shown of a part that does not pass
abbrev pub shown_at : Test → List ℕ → List ℕ
shown_at (there name) at = under_name at name
shown_at (absent name) at = under_name at name
shown_at (rules.not_null name) at = under_name at name
shown_at (rules.boolean_member name) at = under_name at name
shown_at (at_most a b) at = under_name at a
shown_at (rules.versions_in_order a b) at = under_name at a
shown_at (rules.text g) at = at
shown_at (rules.spdx_identifiers licenses exceptions) at = at
shown_at (rules.one_of ts) at = at
shown_at (rules.none_of ts) at = at
shown_at (rules.begins front) at = at
shown_at (rules.matches pattern) at = at
shown_at (rules.reserved front ts) at = at
shown_at (rules.within low high) at = at
shown_at (rules.truth b) at = at
shown_at (rules.either names) at = at
shown_at rules.not_empty at = at
shown_at (rules.length_at_most most) at = at
shown_at (rules.sum_at_most a b most) at = at
shown_at (rules.as_many a name b) at = at
shown_at (rules.lists ts) at = at
shown_at (rules.lists_item name t) at = at
shown_at (rules.apart name) at = at
shown_at (distinct key) at = at
shown_at (among a b) at = at

-- texts, by what is one of them; none
abbrev pub no_text : List ℕ → Bool
no_text q = false

-- and this one, if there is one
abbrev pub with_text : Option (List ℕ) → (List ℕ → Bool) → List ℕ → Bool
with_text o texts q = there_and (bytes_eq q) o || texts q

-- each item whose key an earlier one has, if these are the keys of those before
abbrev pub twins : Rule → Key → List ℕ → ℕ → (List ℕ → Bool) → Items → List Told
twins r key at i before no_items = []
twins r key at i before (item d ds) =
    unless (not (there_and before (key_of key d))) r (under_index at i) ++ twins r key at (i + 1) (with_text (key_of key d) before) ds

-- one of the items is this text
abbrev pub has_text : Items → List ℕ → Bool
has_text ds q = some_item (λ d. there_and (bytes_eq q) (as_str d)) ds

-- each item whose text is none of these
abbrev pub others : Rule → (List ℕ → Bool) → List ℕ → ℕ → Items → List Told
others r known at i no_items = []
others r known at i (item d ds) = unless (if_any known (as_str d)) r (under_index at i) ++ others r known at (i + 1) ds

abbrev pub twins_of : Rule → Key → List ℕ → Option Items → List Told
twins_of r key at None = []
twins_of r key at (Some ds) = twins r key at 0 no_text ds

abbrev pub others_of : Rule → (List ℕ → Bool) → List ℕ → Option Items → List Told
others_of r known at None = []
others_of r known at (Some ds) = others r known at 0 ds

-- what of a part's items breaks a rule
abbrev pub items_told : Test → Rule → List ℕ → Data → List Told
items_told (distinct key) r at d = twins_of r key at (as_array d)
items_told (among a b) r at d = others_of r (has_text (unwrap_or (items_at b d) no_items)) (under_name at a) (items_at a d)
items_told (rules.text g) r at d = []
items_told (rules.spdx_identifiers licenses exceptions) r at d = []
items_told (rules.one_of ts) r at d = []
items_told (rules.none_of ts) r at d = []
items_told (rules.begins front) r at d = []
items_told (rules.matches pattern) r at d = []
items_told (rules.reserved front ts) r at d = []
items_told (rules.within low high) r at d = []
items_told (rules.truth b) r at d = []
items_told (there name) r at d = []
items_told (absent name) r at d = []
items_told (rules.not_null name) r at d = []
items_told (rules.boolean_member name) r at d = []
items_told (rules.either names) r at d = []
items_told rules.not_empty r at d = []
items_told (rules.length_at_most most) r at d = []
items_told (at_most a b) r at d = []
items_told (rules.versions_in_order a b) r at d = []
items_told (rules.sum_at_most a b most) r at d = []
items_told (rules.as_many a name b) r at d = []
items_told (rules.lists ts) r at d = []
items_told (rules.lists_item name t) r at d = []
items_told (rules.apart name) r at d = []

-- what one part breaks
abbrev pub told_by : Test → Rule → List ℕ → Data → List Told
told_by t r at d = unless (is_passed t d) r (shown_at t at) ++ items_told t r at d

-- ---- each part of a place

-- of the name of each member, as a string
abbrev pub of_each_name : (List ℕ → Data → List Told) → List ℕ → Members → List Told
of_each_name f at no_members = []
of_each_name f at (member k d ms) = f (under_name at k) (string k) ++ of_each_name f at ms

abbrev pub of_names : (List ℕ → Data → List Told) → List ℕ → Option Members → List Told
of_names f at None = []
of_names f at (Some ms) = of_each_name f at ms

abbrev pub when : Bool → List Told → List Told
when so told = if so then told else []

-- of a part of the document `root`
abbrev pub told_at : Data → Place → (List ℕ → Data → List Told) → List ℕ → Data → List Told
told_at root here f at d = f at d
told_at root (under name p) f at d = of_part (told_at root p f) (under_name at name) (present name d)
told_at root (each_item p) f at d = of_items (told_at root p f) at (as_array d)
told_at root (each_member p) f at d = of_members (told_at root p f) at (as_object d)
told_at root (each_name p) f at d = of_names (told_at root p f) at (as_object d)
told_at root (if_so c p) f at d = when (holds root c d) (told_at root p f at d)

-- ---- rules

abbrev pub told_of : Rule → Data → List Told
told_of r d = told_at d r.place (told_by r.test r) [] d

abbrev pub all_broken : List Rule → Platform → Data → List Told
all_broken [] p d = []
all_broken (r ∷ rs) p d = when (is_for p r.platforms) (told_of r d) ++ all_broken rs p d
