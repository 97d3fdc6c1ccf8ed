-- The normal form of a value is the JSON of what the value decodes to.
use Rattle.std.proofs.Common.{◌≡◌, refl, sym, ap, ◌∙◌, subst, Bool, true, false, not, ◌||◌, List, [], ◌∷◌, Option, Some, None, is_some, ℕ}
use Rattle.std.specs.Prelude.{option_map, option_and_then, unwrap_or, if◌then◌else◌}
use Rattle.serde_json.specs.Data.{Data, null, boolean, number, string, array, object, Items, no_items, item, Members, no_members, member}
use Rattle.serde_json.specs.Find.{as_bool, as_str, as_null, get, of_integer}
use Rattle.serde_json.specs.Read.{read}
use Rattle.serde_json.specs.Written.{compact_text}
use Rattle.oci_base.specs.Names.{is_listed}
use Rattle.oci_model.specs.Plain as plain
use Rattle.oci_model.specs.Plain.{Plain, Plains, no_plains, Entries, no_entries, entry, Slot, empty, filled, Slots, no_slots, slot, text_of, set_of, list_of, map_of, document_of}
use Rattle.oci_model.specs.Shape as shape
use Rattle.oci_model.specs.Shape.{Presence, required, defaulted, optional, nullable, unless_empty, Shape, text, truth, whole, named, open_name, digest_text, cpu_text, cap_set, list, key_set, detail, free_map, rows, Rows, no_rows, row}
use Rattle.oci_model.specs.Fits.{Each, EachEntry, IfFilled}
use Rattle.oci_model.specs.Means.{Means, MeansRows, MeansEither, MeansMember, EachMeans, EachEntryMeans, IsThere, IsThereOr, get_second, unless_null, free_values, IsSetOf}
use Rattle.oci_model.specs.Value.{value, capability_texts, each_value, each_entry_value, free_members, member_value, with_member, with_rows}
use Rattle.oci_model.specs.Writable.{Writable, AreWritable}
use Rattle.oci_schema.specs.Allows.{each_allowed, each_member_allowed, items_allowed, members_allowed, member_allowed, either_allowed, set_in, some_is}
use Rattle.oci_schema.specs.Normalized.{is_kept, accepts, rows_accept, array_items, each_normalized, each_member_normalized, chosen, unless_absent, unless_no_items, normalized_member, normalized, normalized_rows}
use Rattle.oci_schema.proofs.Decides.{both, allowed, some_decides}
use Rattle.oci_schema.proofs.Texts.{same_decided}
use Rattle.oci_schema.proofs.NormalParts.{object_kept}

-- ---- values that are written as they were read

pub string_kept : (d : Data) (t : List ℕ) → as_str d ≡ Some t → d ≡ string t
string_kept null t e = cc
string_kept (boolean b) t e = cc
string_kept (number n) t e = cc
string_kept (string s) t e = cc
string_kept (array ds) t e = cc
string_kept (object ms) t e = cc

pub truth_kept : (d : Data) (b : Bool) → as_bool d ≡ Some b → d ≡ boolean b
truth_kept null t e = cc
truth_kept (boolean b) t e = cc
truth_kept (number n) t e = cc
truth_kept (string s) t e = cc
truth_kept (array ds) t e = cc
truth_kept (object ms) t e = cc

-- as a text, whatever plain tree has it
text_kept : (d : Data) (t : List ℕ) (p : Plain) → as_str d ≡ Some t → text_of p ≡ t → d ≡ string (text_of p)
text_kept d t p e is = string_kept d t e ∙ ap string (sym is)

text_opened : (b : Bool) (t : List ℕ) → text_of (if b then plain.variant t else plain.other t) ≡ t
text_opened true t = refl
text_opened false t = refl

-- null that is kept as none is null
value_kept : (d : Data) → unwrap_or (unless_null d) null ≡ d
value_kept null = refl
value_kept (boolean b) = refl
value_kept (number n) = refl
value_kept (string s) = refl
value_kept (array ds) = refl
value_kept (object ms) = refl

pub members_kept : (ms : Members) → free_members (free_values ms) ≡ ms
members_kept no_members = refl
members_kept (member k d ms) = let e = value_kept d in let f = members_kept ms in cc

-- the set of names is that of the items
set_told : (table : List (List ℕ)) (ds : Items) (bs : List Bool) → IsSetOf table ds bs → set_in table ds ≡ bs
set_told [] ds [] h = refl
set_told [] ds (b ∷ bs) h = absurd h
set_told (name ∷ table) ds [] h = absurd h
set_told (name ∷ table) ds (b ∷ bs) h =
    let e = same_decided (some_is ds name) b (some_decides ds name) h.0 in
    let f = set_told table ds bs h.1 in
    cc

-- ---- parts

-- of what decodes to something serializable: it is accepted, and its normal form is that thing's JSON
abbrev Told : (Data → Plain → Type 0) → (Plain → Type 0) → (Data → Bool) → (Data → Data) → (Plain → Data) → Type 0
Told M W f g v = (d : Data) (p : Plain) → M d p → W p → (f d ≡ true) × (g d ≡ v p)

module _ (M : Data → Plain → Type 0) (W : Plain → Type 0) (f : Data → Bool) (g : Data → Data) (v : Plain → Data) (told : Told M W f g v) where
  each_told : (ds : Items) (ps : Plains) → EachMeans M ds ps → Each W ps → (each_allowed f ds ≡ true) × (each_normalized g ds ≡ each_value v ps)
  each_told no_items no_plains m w = (refl, refl)
  each_told no_items (plain.plain p ps) m w = absurd m
  each_told (item d ds) no_plains m w = absurd m
  each_told (item d ds) (plain.plain p ps) m w =
      let one = told d p m.0 w.0 in
      let more = each_told ds ps m.1 w.1 in
      (both _ _ one.0 more.0, rw (one.1, more.1) refl)

  each_member_told : (ms : Members) (es : Entries) → EachEntryMeans M ms es → EachEntry W es
      → (each_member_allowed f ms ≡ true) × (each_member_normalized g ms ≡ each_entry_value v es)
  each_member_told no_members no_entries m w = (refl, refl)
  each_member_told no_members (entry k p es) m w = absurd m
  each_member_told (member k d ms) no_entries m w = absurd m
  each_member_told (member k d ms) (entry l p es) m w =
      let one = told d p m.1 w.0 in
      let more = each_member_told ms es m.2 w.1 in
      (both _ _ one.0 more.0, rw (one.1, more.1, m.0) refl)

  -- what is written for a slot
  slot_value : Slot → Option Data
  slot_value empty = None
  slot_value (filled p) = Some (v p)

  nullable_value : (x : Slot) → Some (unwrap_or (slot_value x) null) ≡ member_value nullable v x
  unfolding slot_value
  nullable_value empty = refl
  nullable_value (filled p) = refl

  optional_value : (x : Slot) → slot_value x ≡ member_value optional v x
  unfolding slot_value
  optional_value empty = refl
  optional_value (filled p) = refl

  unless_empty_value : (x : Slot) → option_and_then unless_no_items (slot_value x) ≡ member_value unless_empty v x
  unfolding slot_value
  unless_empty_value empty = refl
  unless_empty_value (filled p) = refl

  there_told : (d : Data) (x : Slot) → IsThere M (Some d) x → IfFilled W x → (f d ≡ true) × (Some (g d) ≡ slot_value x)
  unfolding slot_value
  there_told d empty m w = absurd m
  there_told d (filled p) m w = let one = told d p m w in (one.0, ap Some one.1)

  null_told : (d : Data) (x : Slot) → IsThereOr empty M (unless_null d) x → IfFilled W x → ((is_some (as_null d) || f d) ≡ true) × (option_map g (unless_null d) ≡ slot_value x)
  unfolding slot_value
  null_told null x m w = (refl, sym (ap slot_value m))
  null_told (boolean b) x m w = there_told (boolean b) x m w
  null_told (number b) x m w = there_told (number b) x m w
  null_told (string b) x m w = there_told (string b) x m w
  null_told (array b) x m w = there_told (array b) x m w
  null_told (object b) x m w = there_told (object b) x m w

  found_told : (found : Option Data) (x : Slot) → IsThereOr empty M (option_and_then unless_null found) x → IfFilled W x → unless_absent g found ≡ slot_value x
  unfolding slot_value
  found_told None x m w = sym (ap slot_value m)
  found_told (Some d) x m w = (null_told d x m w).1

  given_told : (d : Data) (x : Slot) (p : Plain) → IsThere M (Some d) x → IfFilled W x → Some (g d) ≡ member_value (defaulted p) v x
  given_told d empty p m w = absurd m
  given_told d (filled q) p m w = ap Some (told d q m w).1

  member_told : (presence : Presence) (found : Option Data) (x : Slot) → MeansMember presence M found x → IfFilled W x
      → (member_allowed presence f found ≡ true) × (normalized_member presence v g found ≡ member_value presence v x)
  member_told required None x m w = absurd m
  member_told required (Some d) empty m w = absurd m
  member_told required (Some d) (filled p) m w = let one = told d p m w in (one.0, ap Some one.1)
  member_told (defaulted p) None x m w = (refl, sym (ap (member_value (defaulted p) v) m))
  member_told (defaulted p) (Some d) x m w = ((there_told d x m w).0, given_told d x p m w)
  member_told optional None x m w = (refl, found_told None x m w ∙ optional_value x)
  member_told optional (Some d) x m w = ((null_told d x m w).0, found_told (Some d) x m w ∙ optional_value x)
  member_told nullable None x m w = (refl, ap (λ o. Some (unwrap_or o null)) (found_told None x m w) ∙ nullable_value x)
  member_told nullable (Some d) x m w = ((null_told d x m w).0, ap (λ o. Some (unwrap_or o null)) (found_told (Some d) x m w) ∙ nullable_value x)
  member_told unless_empty None x m w = (refl, ap (option_and_then unless_no_items) (found_told None x m w) ∙ unless_empty_value x)
  member_told unless_empty (Some d) x m w = ((null_told d x m w).0, ap (option_and_then unless_no_items) (found_told (Some d) x m w) ∙ unless_empty_value x)

  either_told : (presence : Presence) (found second : Option Data) (x : Slot) → MeansEither presence M found second x → IfFilled W x
      → (either_allowed presence f found second ≡ true) × (normalized_member presence v g (chosen found second) ≡ member_value presence v x)
  either_told presence found None x m w = member_told presence found x m w
  either_told presence None (Some d) x m w = member_told presence (Some d) x m w
  either_told presence (Some c) (Some d) x m w = absurd m

-- ---- shape by shape

-- what decodes to something serializable is accepted, and its normal form is that thing's JSON
mutual
  pub told : (s : Shape) (d : Data) (p : Plain) → Means s d p → Writable s p → (accepts s d ≡ true) × (normalized s d ≡ value s p)
  told text d p m w = (allowed text d p m, text_kept d m.0 p m.1 (ap text_of m.2))
  told truth d p m w = (allowed truth d p m, truth_kept d m.0 m.1 ∙ sym (ap (value truth) m.2))
  told (whole low high) d p m w = (allowed (whole low high) d p m, ap (λ o. number (of_integer (unwrap_or o low))) m.1 ∙ sym (ap (value (whole low high)) m.2))
  told (named table) d p m w = (allowed (named table) d p m, text_kept d m.0 p m.1 (ap text_of m.2))
  told (open_name table) d p m w = (allowed (open_name table) d p m, text_kept d m.0 p m.1 (ap text_of m.2 ∙ text_opened (is_listed table m.0) m.0))
  told digest_text d p m w = (allowed digest_text d p m, text_kept d m.0 p m.1 (ap text_of m.2))
  told cpu_text d p m w = (allowed cpu_text d p m, text_kept d m.0 p m.1 (ap text_of m.2))
  told (cap_set table) d p m w =
      let same : set_in table (array_items d) ≡ set_of p = ap (λ o. set_in table (unwrap_or o no_items)) m.2 ∙ set_told table m.0 m.1 m.5 ∙ sym (ap set_of m.3) in
      (allowed (cap_set table) d p m, ap (λ bs. array (capability_texts table bs)) same)
  told (list s) d p m w =
      let each = each_told (Means s) (Writable s) (accepts s) (normalized s) (value s) (λ x q. told s x q) m.0 m.1 m.4 (subst (λ q. Each (Writable s) (list_of q)) m.3 w) in
      (ap (items_allowed (accepts s)) m.2 ∙ each.0, rw (m.2, m.3) (ap array each.1))
  told (shape.map s) d p m w =
      let each = each_member_told (Means s) (Writable s) (accepts s) (normalized s) (value s) (λ x q. told s x q) m.0 m.1 m.4 (subst (λ q. EachEntry (Writable s) (map_of q)) m.3 w) in
      (ap (members_allowed (accepts s)) m.2 ∙ each.0, rw (m.2, m.3) (ap object each.1))
  told key_set d p m w = (allowed key_set d p m, rw (m.1, m.2) refl)
  told detail d p m w =
      let again : read (compact_text d) ≡ Some w.0 = ap (λ q. read (text_of q)) (sym m.2) ∙ w.1 in
      (both _ _ (allowed detail d p m) (ap is_kept again ∙ ap not w.2), ap (λ q. unwrap_or (read (text_of q)) null) (sym m.2))
  told free_map d p m w = (allowed free_map d p m, object_kept d m.0 m.1 ∙ ap object (sym (members_kept m.0)) ∙ sym (ap (value free_map) m.2))
  told (rows rs) d p m w =
      let all = told_rows rs d m.0 m.3 (subst (λ q. AreWritable rs (document_of q)) m.2 w) in
      (both _ _ m.1 all.0, ap object (all.1 no_members) ∙ sym (ap (value (rows rs)) m.2))

  told_rows : (rs : Rows) (d : Data) (xs : Slots) → MeansRows rs d xs → AreWritable rs xs
      → (rows_accept rs d ≡ true) × ((ms : Members) → normalized_rows rs d ms ≡ with_rows rs xs ms)
  told_rows no_rows d no_slots m w = (refl, λ ms. refl)
  told_rows no_rows d (slot x xs) m w = absurd m
  told_rows (row name second presence s rs) d no_slots m w = absurd m
  told_rows (row name second presence s rs) d (slot x xs) m w =
      let one = either_told (Means s) (Writable s) (accepts s) (normalized s) (value s) (λ y q. told s y q) presence (get name d) (get_second second d) x m.0 w.0 in
      let more = told_rows rs d xs m.1 w.1 in
      (both _ _ one.0 more.0, λ ms. ap (λ o. normalized_rows rs d (with_member name o ms)) one.1 ∙ more.1 (with_member name (member_value presence (value s) x) ms))
