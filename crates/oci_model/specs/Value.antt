-- The JSON that is written for a plain tree (image specification, "Canonicalization": members in byte order of their names).
use Rattle.std.specs.Prelude.{ℕ, List, [], ◌∷◌, ◌++◌, Bool, true, false, if◌then◌else◌, Option, Some, None, unwrap_or}
use Rattle.std.specs.Ordering.{nat_cmp, match_ordering}
use Rattle.std.specs.Cmp.Lexicographic.{slice_cmp}
use Rattle.serde_json.specs.Data.{Data, null, boolean, number, string, array, object, Items, no_items, item, Members, no_members, member, put}
use Rattle.serde_json.specs.Find.{of_integer}
use Rattle.serde_json.specs.Read.{read}
use Rattle.oci_base.specs.Capabilities.{cap}
use Rattle.oci_model.specs.Plain as plain
use Rattle.oci_model.specs.Plain.{Plain, Plains, no_plains, Entries, no_entries, entry, Slot, empty, filled, Slots, no_slots, slot, text_of, truth_of, whole_of, set_of, keys_of, free_of, list_of, map_of, document_of}
use Rattle.oci_model.specs.Shape.{Presence, required, defaulted, optional, nullable, unless_empty, Shape, text, truth, whole, named, open_name, digest_text, cpu_text, cap_set, list, map, key_set, detail, free_map, rows, Rows, no_rows, row}

-- `CAP_` and the name, of each name that is in, in table order
abbrev pub capability_texts : List (List ℕ) → List Bool → Items
capability_texts (name ∷ table) (true ∷ bs) = item (string (cap ++ name)) (capability_texts table bs)
capability_texts (name ∷ table) (false ∷ bs) = capability_texts table bs
capability_texts _ _ = no_items

-- the text is put in its place by byte order, unless it is there
abbrev pub with_text : List ℕ → List (List ℕ) → List (List ℕ)
with_text t [] = t ∷ []
with_text t (u ∷ us) = match_ordering (slice_cmp nat_cmp t u) (t ∷ (u ∷ us)) (u ∷ us) (u ∷ with_text t us)

-- in byte order, with no repeats
abbrev pub sorted : List (List ℕ) → List (List ℕ)
sorted [] = []
sorted (t ∷ ts) = with_text t (sorted ts)

abbrev pub empty_objects : List (List ℕ) → Members
empty_objects [] = no_members
empty_objects (k ∷ ks) = member k (object no_members) (empty_objects ks)

abbrev pub free_members : List (List ℕ × Option Data) → Members
free_members [] = no_members
free_members (e ∷ es) = member e.0 (unwrap_or e.1 null) (free_members es)

abbrev pub each_value : (Plain → Data) → Plains → Items
each_value f no_plains = no_items
each_value f (plain.plain p ps) = item (f p) (each_value f ps)

abbrev pub each_entry_value : (Plain → Data) → Entries → Members
each_entry_value f no_entries = no_members
each_entry_value f (entry k p es) = member k (f p) (each_entry_value f es)

abbrev pub is_null : Data → Bool
is_null null = true
is_null _ = false

abbrev pub is_empty_array : Data → Bool
is_empty_array (array no_items) = true
is_empty_array _ = false

-- ---- listed members, each under its name, never under its second name

-- what is written for a member, if it is
abbrev pub member_value : Presence → (Plain → Data) → Slot → Option Data
member_value required f empty = None
member_value required f (filled p) = Some (f p)
member_value (defaulted d) f empty = None
member_value (defaulted d) f (filled p) = Some (f p)
member_value optional f empty = None
member_value optional f (filled p) = Some (f p)
member_value nullable f empty = Some null
member_value nullable f (filled p) = Some (f p)
member_value unless_empty f empty = None
member_value unless_empty f (filled p) = if is_empty_array (f p) then None else Some (f p)

abbrev pub with_member : List ℕ → Option Data → Members → Members
with_member name None ms = ms
with_member name (Some d) ms = put name d ms

abbrev mutual
  pub value : Shape → Plain → Data
  value text p = string (text_of p)
  value truth p = boolean (truth_of p)
  value (whole low high) p = number (of_integer (whole_of p))
  value (named table) p = string (text_of p)
  value (open_name table) p = string (text_of p)
  value digest_text p = string (text_of p)
  value cpu_text p = string (text_of p)
  value (cap_set table) p = array (capability_texts table (set_of p))
  value (list s) p = array (each_value (value s) (list_of p))
  value (map s) p = object (each_entry_value (value s) (map_of p))
  value key_set p = object (empty_objects (sorted (keys_of p)))
  value detail p = unwrap_or (read (text_of p)) null
  value free_map p = object (free_members (free_of p))
  value (rows rs) p = object (with_rows rs (document_of p) no_members)

  -- the members, with those that are written for the slots
  pub with_rows : Rows → Slots → Members → Members
  with_rows no_rows xs ms = ms
  with_rows (row name second presence s rs) no_slots ms = ms
  with_rows (row name second presence s rs) (slot x xs) ms = with_rows rs xs (with_member name (member_value presence (value s) x) ms)
