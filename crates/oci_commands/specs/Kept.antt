-- A canonical form with the members that no schema lists (image specification, "Extensibility": they are ignored, and may be kept).
use Rattle.std.specs.Prelude.{◌≡◌, ◌+◌, ◌≤◌, ℕ, List, Bool, true, false, if◌then◌else◌, Option, Some, None}
use Rattle.json.specs.Lex.{tokens}
use Rattle.json.specs.Print.{print}
use Rattle.serde_json.specs.Data.{Data, array, object, depth, Items, no_items, item, Members, no_members, member, put}
use Rattle.serde_json.specs.Find.{as_array, as_object, at, get}
use Rattle.serde_json.specs.Read.{read, max_depth}
use Rattle.serde_json.specs.Written.{compact_text, has_float, IsInOrder}
use Rattle.oci_base.specs.Names.{is_listed}
use Rattle.oci_json.specs.Engines.{IsPretty}
use Rattle.oci_model.specs.Means.{get_second}
use Rattle.oci_model.specs.Shape as shape
use Rattle.oci_model.specs.Shape.{Shape, text, truth, whole, named, open_name, digest_text, cpu_text, cap_set, list, key_set, detail, free_map, rows, Rows, no_rows, row, names}
use Rattle.oci_model.specs.Value.{with_member}
use Rattle.oci_schema.specs.Normalized.{chosen}

-- ---- parts of the value that was read (first) and of its canonical form (last)

-- what was not read, as a default, is as it is
abbrev pub kept_or : (Data → Data → Data) → Option Data → Data → Data
kept_or f None c = c
kept_or f (Some d) c = f d c

-- a member that the canonical form lacks stays out
abbrev pub kept_there : (Data → Data → Data) → Option Data → Option Data → Option Data
kept_there f found None = None
kept_there f found (Some c) = Some (kept_or f found c)

-- the items from this index on
abbrev pub each_kept : (Data → Data → Data) → Data → ℕ → Items → Items
each_kept f d i no_items = no_items
each_kept f d i (item c cs) = item (kept_or f (at i d) c) (each_kept f d (i + 1) cs)

-- the members of a map, put to others
abbrev pub kept_entries : (Data → Data → Data) → Data → Members → Members → Members
kept_entries f d no_members ms = ms
kept_entries f d (member k c cs) ms = kept_entries f d cs (put k (kept_or f (get k d) c) ms)

abbrev pub in_array : (Items → Items) → Option Items → Data → Data
in_array f None c = c
in_array f (Some cs) c = array (f cs)

abbrev pub in_object : (Members → Members) → Option Members → Data → Data
in_object f None c = c
in_object f (Some cs) c = object (f cs)

-- ---- members that a record with these names does not list

abbrev pub unless_listed : List (List ℕ) → List ℕ → Data → Option Data
unless_listed ns k d = if is_listed ns k then None else Some d

-- those of an object, put to others in byte order
abbrev pub with_unlisted : List (List ℕ) → Members → Members → Members
with_unlisted ns no_members ms = ms
with_unlisted ns (member k d ds) ms = with_unlisted ns ds (with_member k (unless_listed ns k d) ms)

abbrev pub with_unlisted_in : List (List ℕ) → Option Members → Members → Members
with_unlisted_in ns None ms = ms
with_unlisted_in ns (Some ds) ms = with_unlisted ns ds ms

-- ---- the whole

abbrev mutual
  -- of a value that was read and its canonical form: that form, in which each member that the value's record does not list stands as it was read
  pub kept : Shape → Data → Data → Data
  kept text d c = c
  kept truth d c = c
  kept (whole low high) d c = c
  kept (named table) d c = c
  kept (open_name table) d c = c
  kept digest_text d c = c
  kept cpu_text d c = c
  kept (cap_set table) d c = c
  kept (list s) d c = in_array (each_kept (kept s) d 0) (as_array c) c
  kept (shape.map s) d c = in_object (λ cs. kept_entries (kept s) d cs no_members) (as_object c) c
  kept key_set d c = c
  kept detail d c = c
  kept free_map d c = c
  kept (rows rs) d c = in_object (λ cs. with_unlisted_in (names rs) (as_object d) (kept_rows rs d c no_members)) (as_object c) c

  -- the listed members, put to others; what was read of one is under its alias or its name
  pub kept_rows : Rows → Data → Data → Members → Members
  kept_rows no_rows d c ms = ms
  kept_rows (row name alias presence s rs) d c ms =
      kept_rows rs d c (with_member name (kept_there (kept s) (chosen (get name d) (get_second alias d)) (get name c)) ms)

-- ---- its text

-- a text of the tree with no space, and with its members in order; where the tree has no floats, it is the compact text
pub record IsCompact (d : Data) (written : List ℕ) : Type 0 where
  pub layout : written ≡ print (tokens written)
  pub order : IsInOrder written d
  pub reads_back : depth d ≤ max_depth → read written ≡ Some d
  pub exact : has_float d ≡ false → written ≡ compact_text d

-- compact, or indented
abbrev pub IsTextOf : Bool → Data → List ℕ → Type 0
IsTextOf false d written = IsCompact d written
IsTextOf true d written = IsPretty d written
