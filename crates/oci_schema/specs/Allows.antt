-- Whether a shape allows a value, as a computation.
use Rattle.std.specs.Prelude.{ℕ, zero, suc, ℤ, List, ◌++◌, length, Bool, true, false, not, ◌&&◌, ◌||◌, int_le, bytes_eq, Option, Some, None, is_some}
use Rattle.std.specs.List.{list_any}
use Rattle.std.specs.Prelude as std
use Rattle.serde_json.specs.Data.{Data, Items, no_items, item, Members, no_members, member}
use Rattle.serde_json.specs.Find.{as_bool, as_str, as_array, as_object, as_null, get}
use Rattle.serde_json.specs.Written.{has_float, members_have_float}
use Rattle.oci_base.specs.Capabilities.{ascii_upper, cap, repeated}
use Rattle.oci_base.specs.Digest.{digest_refusal}
use Rattle.oci_base.specs.Names.{is_listed}
use Rattle.oci_model.specs.Means.{as_whole, is_object, get_second}
use Rattle.oci_model.specs.Shape.{Presence, required, defaulted, optional, nullable, unless_empty, Shape, text, truth, whole, named, open_name, digest_text, cpu_text, cap_set, list, key_set, detail, free_map, rows, Rows, no_rows, row}
use Rattle.oci_model.specs.Shape as shape
use Rattle.oci_text.specs.CpuScan.{is_cpu_text}
use Rattle.oci_schema.specs.Shapes.{schema_shape, presence_of, alias_of}
use Rattle.oci_schema.specs.declared.record.Member.{Member}

-- ---- strings

unfoldable pub is_digest_text : List ℕ → Bool
is_digest_text t = not (is_some (digest_refusal t))

-- for one of these numbers, or 0
abbrev pub any_up_to : (ℕ → Bool) → ℕ → Bool
any_up_to f zero = f zero
any_up_to f (suc n) = f (suc n) || any_up_to f n

-- the text's uppercase is `CAP_` some number of times, and then the name
unfoldable pub is_spelled : List ℕ → List ℕ → Bool
is_spelled t name = any_up_to (λ n. bytes_eq (std.map ascii_upper t) (repeated n cap ++ name)) (length t)

unfoldable pub is_capability : List (List ℕ) → List ℕ → Bool
is_capability table t = list_any (is_spelled t) table

-- ---- values

abbrev pub text_allowed : (List ℕ → Bool) → Option (List ℕ) → Bool
text_allowed f None = false
text_allowed f (Some t) = f t

abbrev pub names_capability : List (List ℕ) → Data → Bool
names_capability table d = text_allowed (is_capability table) (as_str d)

abbrev pub is_in_range : ℤ → ℤ → Option ℤ → Bool
is_in_range low high None = false
is_in_range low high (Some z) = int_le low z && int_le z high

abbrev pub each_allowed : (Data → Bool) → Items → Bool
each_allowed f no_items = true
each_allowed f (item d ds) = f d && each_allowed f ds

abbrev pub items_allowed : (Data → Bool) → Option Items → Bool
items_allowed f None = false
items_allowed f (Some ds) = each_allowed f ds

abbrev pub each_member_allowed : (Data → Bool) → Members → Bool
each_member_allowed f no_members = true
each_member_allowed f (member k d ms) = f d && each_member_allowed f ms

abbrev pub members_allowed : (Data → Bool) → Option Members → Bool
members_allowed f None = false
members_allowed f (Some ms) = each_member_allowed f ms

-- an object whose numbers are 64-bit integers
abbrev pub are_free : Option Members → Bool
are_free None = false
are_free (Some ms) = not (members_have_float ms)

-- ---- members

abbrev pub unless_null : (Data → Bool) → Data → Bool
unless_null f d = is_some (as_null d) || f d

abbrev pub member_allowed : Presence → (Data → Bool) → Option Data → Bool
member_allowed required f None = false
member_allowed required f (Some d) = f d
member_allowed (defaulted p) f None = true
member_allowed (defaulted p) f (Some d) = f d
member_allowed optional f None = true
member_allowed optional f (Some d) = unless_null f d
member_allowed nullable f None = true
member_allowed nullable f (Some d) = unless_null f d
member_allowed unless_empty f None = true
member_allowed unless_empty f (Some d) = unless_null f d

-- by what is found under the name or the alias, and not where both are
abbrev pub either_allowed : Presence → (Data → Bool) → Option Data → Option Data → Bool
either_allowed presence f found None = member_allowed presence f found
either_allowed presence f None (Some d) = member_allowed presence f (Some d)
either_allowed presence f (Some c) (Some d) = false

-- where `f` is the test of details
abbrev mutual
  pub allows_by : (Data → Bool) → Shape → Data → Bool
  allows_by f text d = is_some (as_str d)
  allows_by f truth d = is_some (as_bool d)
  allows_by f (whole low high) d = is_in_range low high (as_whole d)
  allows_by f (named table) d = text_allowed (is_listed table) (as_str d)
  allows_by f (open_name table) d = is_some (as_str d)
  allows_by f digest_text d = text_allowed is_digest_text (as_str d)
  allows_by f cpu_text d = text_allowed is_cpu_text (as_str d)
  allows_by f (cap_set table) d = items_allowed (names_capability table) (as_array d)
  allows_by f (list s) d = items_allowed (allows_by f s) (as_array d)
  allows_by f (shape.map s) d = members_allowed (allows_by f s) (as_object d)
  allows_by f key_set d = members_allowed is_object (as_object d)
  allows_by f detail d = f d
  allows_by f free_map d = are_free (as_object d)
  allows_by f (rows rs) d = is_object d && rows_allow_by f rs d

  pub rows_allow_by : (Data → Bool) → Rows → Data → Bool
  rows_allow_by f no_rows d = true
  rows_allow_by f (row name alias presence s rs) d = either_allowed presence (allows_by f s) (get name d) (get_second alias d) && rows_allow_by f rs d

-- any value but null, in which each number is a 64-bit integer
abbrev pub detail_allowed : Data → Bool
detail_allowed d = not (is_some (as_null d)) && not (has_float d)

abbrev pub allows : Shape → Data → Bool
allows = allows_by detail_allowed

abbrev pub rows_allow : Rows → Data → Bool
rows_allow = rows_allow_by detail_allowed

-- a member of a record, over a table with these shapes
abbrev pub known_allowed : (ℕ → Shape) → Member → Data → Bool
known_allowed f m d = either_allowed (presence_of m.presence) (allows (schema_shape f m.schema)) (get m.name.now d) (get_second (alias_of m.alias) d)

-- ---- sets of capabilities

abbrev pub item_is : Data → List ℕ → Bool
item_is d name = text_allowed (λ t. is_spelled t name) (as_str d)

abbrev pub some_is : Items → List ℕ → Bool
some_is no_items name = false
some_is (item d ds) name = item_is d name || some_is ds name

-- for each name of the table, whether an item is of it
abbrev pub set_in : List (List ℕ) → Items → List Bool
set_in table ds = std.map (some_is ds) table
