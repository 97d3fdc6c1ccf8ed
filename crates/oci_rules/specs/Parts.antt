-- What stands where names lead in a value. A null is as good as nothing.
use Rattle.std.specs.Prelude.{ℕ, suc, ℤ, List, [], ◌∷◌, length, Bool, false, Option, Some, None, option_map, option_and_then, if◌then◌else◌}
use Rattle.std.specs.Option.{option_or}
use Rattle.std.specs.Fmt.{signed_decimal}
use Rattle.serde_json.specs.Data.{Data, Items, no_items, item}
use Rattle.serde_json.specs.Events.{items_len, members_len}
use Rattle.serde_json.specs.Find.{as_bool, as_str, as_array, as_object, as_number, as_u64, get}
use Rattle.oci_model.specs.Means.{as_whole, unless_null}
use Rattle.oci_base.specs.Classes.{until}
use Rattle.oci_schema.specs.Places.{under_name}
use Rattle.oci_rules.specs.Rules.{Key, itself, members, entry_name}

-- the member of this name
abbrev pub present : List ℕ → Data → Option Data
present name d = option_and_then unless_null (get name d)

-- what these names lead to
abbrev pub led : List (List ℕ) → Data → Option Data
led [] d = unless_null d
led (name ∷ way) d = option_and_then (led way) (get name d)

abbrev pub text_at : List ℕ → Data → Option (List ℕ)
text_at name d = option_and_then as_str (get name d)

abbrev pub whole_at : List ℕ → Data → Option ℤ
whole_at name d = option_and_then as_whole (get name d)

-- a whole number that is not negative
abbrev pub natural_at : List ℕ → Data → Option ℕ
natural_at name d = option_and_then as_u64 (option_and_then as_number (get name d))

abbrev pub items_at : List ℕ → Data → Option Items
items_at name d = option_and_then as_array (get name d)

-- the list to which these names lead
abbrev pub items_led : List (List ℕ) → Data → Option Items
items_led way d = option_and_then as_array (led way d)

-- there is `true` under this name
abbrev pub is_yes : Option Bool → Bool
is_yes None = false
is_yes (Some b) = b

abbrev pub is_true : List ℕ → Data → Bool
is_true name d = is_yes (option_and_then as_bool (get name d))

-- how many of the items do not have `true` under this name
abbrev pub without : List ℕ → Items → ℕ
without name no_items = 0
without name (item d ds) = if is_true name d then without name ds else suc (without name ds)

-- the bytes of a text, the items of an array, the members of an object
abbrev pub extent : Data → Option ℕ
extent d = option_or (option_map length (as_str d)) (option_or (option_map items_len (as_array d)) (option_map members_len (as_object d)))

-- ---- keys

-- a text, or the digits of a whole number
abbrev pub scalar : Data → Option (List ℕ)
scalar d = option_or (as_str d) (option_map signed_decimal (as_whole d))

abbrev pub equals : ℕ
equals = 61

-- what the ways lead to, as the tokens of a JSON Pointer (RFC 6901) behind the one that was read
abbrev pub joined : List ℕ → List (List (List ℕ)) → Data → Option (List ℕ)
joined at [] d = Some at
joined at (way ∷ ways) d = option_and_then (λ t. joined (under_name at t) ways d) (option_and_then scalar (led way d))

-- by what an item is told apart from others, if by anything
abbrev pub key_of : Key → Data → Option (List ℕ)
key_of itself d = scalar d
key_of (members ways) d = joined [] ways d
key_of entry_name d = option_map (until equals) (as_str d)
