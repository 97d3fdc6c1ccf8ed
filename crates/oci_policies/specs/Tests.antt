-- The test that a member of a rule's table writes, by its name.
use Rattle.std.specs.Prelude.{ℕ, List, [], ◌∷◌, codes, bytes_eq, Option, Some, None, option_map, option_and_then, if◌then◌else◌}
use Rattle.toml.specs.Data.{Data, Members, as_str, as_bool}
use Rattle.oci_rules.specs.Rules as rules
use Rattle.oci_policies.specs.Grammars.{grammar_in}
use Rattle.oci_policies.specs.Places.{way_in}
use Rattle.oci_policies.specs.Values.{both, texts_in, some_in, some_text_in, expression_in, some_texts_in, pair_in, natural_in, bounds_in, yes_in, under, table_of}

-- `prefix` and `names`
abbrev pub reserved_of : Members → Option rules.Test
reserved_of ms = option_map (λ x. rules.reserved x.0 x.1) (both (under as_str (codes "prefix") ms) (under texts_in (codes "names") ms))

abbrev pub reserved_names : List (List ℕ)
reserved_names = codes "prefix" ∷ codes "names" ∷ []

-- `members`, two of them, and `most`
unfoldable pub sum_of : Members → Option rules.Test
sum_of ms = option_map (λ x. rules.sum_at_most x.0.0 x.0.1 x.1) (both (under pair_in (codes "members") ms) (under natural_in (codes "most") ms))

abbrev pub sum_names : List (List ℕ)
sum_names = codes "members" ∷ codes "most" ∷ []

-- `name` and `value`
abbrev pub item_of : Members → Option rules.Test
item_of ms = option_map (λ x. rules.lists_item x.0 x.1) (both (under as_str (codes "name") ms) (under as_str (codes "value") ms))

abbrev pub item_names : List (List ℕ)
item_names = codes "name" ∷ codes "value" ∷ []

-- a word, or the ways to what tells items apart
abbrev pub key_named : List ℕ → Option rules.Key
key_named t = if bytes_eq t (codes "itself") then Some rules.itself else (if bytes_eq t (codes "entry-name") then Some rules.entry_name else None)

abbrev pub key_of : Option (List ℕ) → Data → Option rules.Key
key_of (Some t) d = key_named t
key_of None d = option_map rules.members (some_in way_in d)

abbrev pub key_in : Data → Option rules.Key
key_in d = key_of (as_str d) d

-- a test of arrays, by its name
unfoldable pub array_test : List ℕ → Data → Option rules.Test
array_test k d =
    if bytes_eq k (codes "lists") then option_map rules.lists (some_texts_in d)
    else (if bytes_eq k (codes "lists_item") then option_and_then item_of (table_of item_names d)
    else (if bytes_eq k (codes "distinct") then option_map rules.distinct (key_in d)
    else None))

-- a test of objects or of arrays
unfoldable pub object_test : List ℕ → Data → Option rules.Test
object_test k d =
    if bytes_eq k (codes "there") then option_map rules.there (as_str d)
    else (if bytes_eq k (codes "absent") then option_map rules.absent (as_str d)
    else (if bytes_eq k (codes "either") then option_map rules.either (some_texts_in d)
    else (if bytes_eq k (codes "at_most") then option_map (λ x. rules.at_most x.0 x.1) (pair_in d)
    else (if bytes_eq k (codes "sum_at_most") then option_and_then sum_of (table_of sum_names d)
    else (if bytes_eq k (codes "among") then option_map (λ x. rules.among x.0 x.1) (pair_in d)
    else array_test k d)))))

-- a test of numbers, booleans and lengths, or of objects or arrays
unfoldable pub size_test : List ℕ → Data → Option rules.Test
size_test k d =
    if bytes_eq k (codes "within") then option_map (λ b. rules.within b.0 b.1) (bounds_in d)
    else (if bytes_eq k (codes "boolean") then option_map rules.truth (as_bool d)
    else (if bytes_eq k (codes "not_empty") then option_map (λ b. rules.not_empty) (yes_in d)
    else (if bytes_eq k (codes "length_at_most") then option_map rules.length_at_most (natural_in d)
    else object_test k d)))

-- a test, by its name
unfoldable pub test_named : List ℕ → Data → Option rules.Test
test_named k d =
    if bytes_eq k (codes "format") then option_map rules.text (grammar_in d)
    else (if bytes_eq k (codes "one_of") then option_map rules.one_of (some_texts_in d)
    else (if bytes_eq k (codes "none_of") then option_map rules.none_of (some_texts_in d)
    else (if bytes_eq k (codes "begins") then option_map rules.begins (some_text_in d)
    else (if bytes_eq k (codes "matches") then option_map rules.matches (expression_in d)
    else (if bytes_eq k (codes "reserved") then option_and_then reserved_of (table_of reserved_names d)
    else size_test k d)))))
