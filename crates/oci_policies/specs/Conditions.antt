-- The condition that a table of a policy writes: `part` or `document` with the way from there, what is checked, and `holds`.
use Rattle.std.specs.Prelude.{ℕ, List, [], ◌∷◌, true, codes, bytes_eq, Option, Some, None, option_map, option_and_then, if◌then◌else◌}
use Rattle.toml.specs.Data.{Data, Members, as_str, as_bool, as_table, get_member}
use Rattle.oci_rules.specs.Rules.{Origin, the_part, the_document, Check, is_there, is_text, is_truth, is_within, has_text, has_item, Condition, asks}
use Rattle.oci_policies.specs.Values.{both, texts_in, some_texts_in, bounds_in, yes_in, under, under_or, sole_other, table_of}
use Rattle.oci_policies.specs.Places.{way_in}

-- `name`, `values`, and perhaps `with` and `without`
abbrev pub item_names : List (List ℕ)
item_names = codes "name" ∷ codes "values" ∷ codes "with" ∷ codes "without" ∷ []

abbrev pub item_of : Members → Option Check
item_of ms =
    option_map (λ x. has_item x.0 x.1.0 x.1.1.0 x.1.1.1)
    (both (under as_str (codes "name") ms) (both (under some_texts_in (codes "values") ms) (both (under_or [] texts_in (codes "with") ms) (under_or [] texts_in (codes "without") ms))))

-- a check, by its name
abbrev pub check_named : List ℕ → Data → Option Check
check_named k d =
    if bytes_eq k (codes "there") then option_map (λ b. is_there) (yes_in d)
    else (if bytes_eq k (codes "one_of") then option_map is_text (some_texts_in d)
    else (if bytes_eq k (codes "boolean") then option_map is_truth (as_bool d)
    else (if bytes_eq k (codes "within") then option_map (λ b. is_within b.0 b.1) (bounds_in d)
    else (if bytes_eq k (codes "lists") then option_map has_text (some_texts_in d)
    else (if bytes_eq k (codes "lists_item") then option_and_then item_of (table_of item_names d)
    else None)))))

abbrev pub condition_names : List (List ℕ)
condition_names = codes "part" ∷ codes "document" ∷ codes "holds" ∷ []

-- from the part or from the document, and not from both
abbrev pub origin_of : Option Data → Option Data → Option (Origin × List (List ℕ))
origin_of (Some d) None = option_map (λ w. (the_part, w)) (way_in d)
origin_of None (Some d) = option_map (λ w. (the_document, w)) (way_in d)
origin_of (Some d) (Some e) = None
origin_of None None = None

abbrev pub origin_in : Members → Option (Origin × List (List ℕ))
origin_in ms = origin_of (get_member (codes "part") ms) (get_member (codes "document") ms)

abbrev pub checked_in : Members → Option Check
checked_in ms = option_and_then (λ x. check_named x.0 x.1) (sole_other condition_names ms)

abbrev pub condition_of : Members → Option Condition
condition_of ms =
    option_map (λ x. asks x.0.0 x.0.1 x.1.0 x.1.1)
    (both (origin_in ms) (both (under_or true as_bool (codes "holds") ms) (checked_in ms)))

abbrev pub condition_in : Data → Option Condition
condition_in d = option_and_then condition_of (as_table d)
