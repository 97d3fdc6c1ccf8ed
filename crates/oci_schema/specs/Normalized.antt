-- The normal form of a value, as a computation: the JSON of what the value decodes to.
use Rattle.std.specs.Prelude.{◌⊎◌, bytes_eq, ℕ, List, Bool, true, false, not, ◌&&◌, ◌||◌, if◌then◌else◌, Option, Some, None, option_map, option_and_then, unwrap_or}
use Rattle.serde_json.specs.Data.{Data, null, number, array, object, Items, no_items, item, Members, no_members, member}
use Rattle.serde_json.specs.Find.{as_array, as_object, of_integer, get}
use Rattle.serde_json.specs.Read.{read}
use Rattle.serde_json.specs.Written.{has_float, compact_text}
use Rattle.oci_model.specs.Means.{Means, as_whole, get_second, member_names, unless_null}
use Rattle.oci_model.specs.Plain.{Plain}
use Rattle.oci_model.specs.Refused.{IsRefused}
use Rattle.oci_model.specs.WellFormed.{WellFormed, MemberIsWellFormed}
use Rattle.oci_model.specs.Writable.{Writable}
use Rattle.oci_model.specs.Shape.{Presence, required, defaulted, optional, nullable, unless_empty, Shape, text, truth, whole, named, open_name, digest_text, cpu_text, cap_set, list, key_set, detail, free_map, rows, Rows, no_rows, row}
use Rattle.oci_model.specs.Shape as shape
use Rattle.oci_model.specs.Value.{value, capability_texts, sorted, empty_objects, with_member, is_empty_array}
use Rattle.oci_schema.specs.Allows.{allows_by, rows_allow_by, detail_allowed, set_in, either_allowed}
use Rattle.oci_schema.specs.Shapes.{presence_of, alias_of, schema_shape}
use Rattle.oci_schema.specs.declared.record.Member.{Member}

-- ---- which values have a normal form

-- what was parsed, if anything was, has no numbers but 64-bit integers
abbrev pub is_kept : Option Data → Bool
is_kept None = false
is_kept (Some d) = not (has_float d)

-- such a detail is parsed again from its text, so it nests no deeper than a JSON text may
abbrev pub detail_accepted : Data → Bool
detail_accepted d = detail_allowed d && is_kept (read (compact_text d))

-- valid, and what it decodes to is serializable
abbrev pub accepts : Shape → Data → Bool
accepts = allows_by detail_accepted

abbrev pub rows_accept : Rows → Data → Bool
rows_accept = rows_allow_by detail_accepted

-- a member of a record, over a table that has at each place a record of the shape `f place`
abbrev pub known_accepted : (ℕ → Shape) → Member → Data → Bool
known_accepted f m d = either_allowed (presence_of m.presence) (accepts (schema_shape f m.schema)) (get m.name.now d) (get_second (alias_of m.alias) d)

-- ---- parts; no particular value where the kind is another

abbrev pub array_items : Data → Items
array_items d = unwrap_or (as_array d) no_items

abbrev pub object_members : Data → Members
object_members d = unwrap_or (as_object d) no_members

abbrev pub each_normalized : (Data → Data) → Items → Items
each_normalized f no_items = no_items
each_normalized f (item d ds) = item (f d) (each_normalized f ds)

abbrev pub each_member_normalized : (Data → Data) → Members → Members
each_member_normalized f no_members = no_members
each_member_normalized f (member k d ms) = member k (f d) (each_member_normalized f ms)

-- ---- members of records

-- the value of the alias, or else of the name
abbrev pub chosen : Option Data → Option Data → Option Data
chosen found None = found
chosen found (Some d) = Some d

-- the value of a member that may be null or absent
abbrev pub unless_absent : (Data → Data) → Option Data → Option Data
unless_absent f found = option_map f (option_and_then unless_null found)

abbrev pub unless_no_items : Data → Option Data
unless_no_items d = if is_empty_array d then None else Some d

-- what is written for a member, if it is, by its found value; `v` is the JSON of a default value
abbrev pub normalized_member : Presence → (Plain → Data) → (Data → Data) → Option Data → Option Data
normalized_member required v f found = option_map f found
normalized_member (defaulted p) v f None = Some (v p)
normalized_member (defaulted p) v f (Some d) = Some (f d)
normalized_member optional v f found = unless_absent f found
normalized_member nullable v f found = Some (unwrap_or (unless_absent f found) null)
normalized_member unless_empty v f found = option_and_then unless_no_items (unless_absent f found)

abbrev mutual
  pub normalized : Shape → Data → Data
  normalized text d = d
  normalized truth d = d
  normalized (whole low high) d = number (of_integer (unwrap_or (as_whole d) low))
  normalized (named table) d = d
  normalized (open_name table) d = d
  normalized digest_text d = d
  normalized cpu_text d = d
  normalized (cap_set table) d = array (capability_texts table (set_in table (array_items d)))
  normalized (list s) d = array (each_normalized (normalized s) (array_items d))
  normalized (shape.map s) d = object (each_member_normalized (normalized s) (object_members d))
  normalized key_set d = object (empty_objects (sorted (member_names (object_members d))))
  normalized detail d = unwrap_or (read (compact_text d)) null
  normalized free_map d = d
  normalized (rows rs) d = object (normalized_rows rs d no_members)

  -- the members, with those that are written for the value's
  pub normalized_rows : Rows → Data → Members → Members
  normalized_rows no_rows d ms = ms
  normalized_rows (row name alias presence s rs) d ms =
      normalized_rows rs d (with_member name (normalized_member presence (value s) (normalized s) (chosen (get name d) (get_second alias d))) ms)

-- a member of a record
abbrev pub known_normalized : (ℕ → Shape) → Member → Data → Option Data
known_normalized f m d =
    normalized_member (presence_of m.presence) (value (schema_shape f m.schema)) (normalized (schema_shape f m.schema)) (chosen (get m.name.now d) (get_second (alias_of m.alias) d))

-- ---- what contracts say

-- it may be the shape of a member: well formed, or a detail
abbrev pub IsSound : Shape → Type 0
IsSound s = MemberIsWellFormed optional s (WellFormed s)

-- it decodes to nothing, or to what is not serializable
abbrev pub HasNoNormalForm : Shape → Data → Type 0
HasNoNormalForm s d = IsRefused s d ⊎ ((p : Plain) × Means s d p × ¬ Writable s p)

-- it is this name, or this alias
abbrev pub is_one_of : List ℕ → List ℕ → Option (List ℕ) → Bool
is_one_of q name None = bytes_eq q name
is_one_of q name (Some alias) = bytes_eq q name || bytes_eq q alias

-- the name and the alias are not both there
abbrev pub is_one_there : Option Data → Option Data → Bool
is_one_there found None = true
is_one_there None (Some d) = true
is_one_there (Some c) (Some d) = false
