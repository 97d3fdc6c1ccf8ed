-- What is written for a plain tree means its normal form.
use Rattle.std.proofs.Common.{◌≡◌, ℕ, ℤ, pos, negsuc, List, [], ◌∷◌, true, false, not, cond, Option, Some, None, unwrap_or, refl, ◌∙◌, sym, ap, subst, true≢false}
use Rattle.std.specs.Prelude.{◌≢◌, ⊤, option_and_then}
use Rattle.std.proofs.lemmas.Bool.{and_parts, not-true}
use Rattle.serde_json.specs.Data.{Data, null, boolean, number, string, array, object, Items, no_items, item, Members, no_members}
use Rattle.serde_json.specs.Find.{get_member, of_integer}
use Rattle.serde_json.specs.Written.{has_float}
use Rattle.oci_base.specs.Names.{is_listed, no_text_twice}
use Rattle.oci_model.specs.Plain as plain
use Rattle.oci_model.specs.Plain.{Plain, Plains, no_plains, Entries, no_entries, entry, Slot, empty, filled, Slots, no_slots, slot, list_of, map_of, keys_of, free_of, document_of}
use Rattle.oci_model.specs.Shape.{Presence, required, defaulted, optional, nullable, unless_empty, Shape, text, truth, whole, named, open_name, digest_text, cpu_text, cap_set, list, map, key_set, detail, free_map, rows, Rows, no_rows, row, with_second, names}
use Rattle.oci_model.specs.Fits.{Fits, FitsRows, FitsMember, Each, EachEntry, IfFilled}
use Rattle.oci_model.specs.Means.{as_whole, opened, AreObjects, unless_null, member_names, free_values, EachMeans, EachEntryMeans, IsThereOr, MeansMember, get_second, MeansEither, Means, MeansRows}
use Rattle.oci_model.specs.Value.{value, sorted, empty_objects, free_members, each_value, each_entry_value, is_null, is_empty_array, member_value, with_member, with_rows}
use Rattle.oci_model.specs.Norm.{norm, norm_free, each_plain, each_entry, norm_member, norm_rows}
use Rattle.oci_model.specs.Writable.{Writable, AreWritable}
use Rattle.oci_model.specs.WellFormed.{WellFormed, AreWellFormed, MemberIsWellFormed}
use Rattle.oci_json.proofs.Capabilities.{set_read}
use Rattle.oci_json.proofs.Meanings.{MayBe, may_be}
use Rattle.oci_json.proofs.Written.{not_listed, not_later, kept, kept_one, first_written}

-- ---- leaves

-- a number is read as it was written
whole_read : (z : ℤ) → as_whole (number (of_integer z)) ≡ Some z
whole_read (pos n) = refl
whole_read (negsuc n) = refl

-- a listed text is its variant
opened_listed : (table : List (List ℕ)) (t : List ℕ) → is_listed table t ≡ true → opened table t ≡ plain.variant t
opened_listed table t e = rw e refl

-- the names of a set of names
names_of_empty_objects : (ks : List (List ℕ)) → member_names (empty_objects ks) ≡ ks
names_of_empty_objects [] = refl
names_of_empty_objects (k ∷ ks) = ap (λ us. k ∷ us) (names_of_empty_objects ks)

-- its values are objects
are_objects : (ks : List (List ℕ)) → AreObjects (empty_objects ks)
are_objects [] = tt
are_objects (k ∷ ks) = ((no_members, refl), are_objects ks)

-- null is read as none
value_as_none : (o : Option Data) → unless_null (unwrap_or o null) ≡ option_and_then unless_null o
value_as_none None = refl
value_as_none (Some d) = refl

-- the values of a free map are read as the normal form has them
free_values_read : (es : List (List ℕ × Option Data)) → free_values (free_members es) ≡ norm_free es
free_values_read [] = refl
free_values_read (e ∷ es) = let f = value_as_none e.1 in let g = free_values_read es in cc

-- a tree that is not null
is_not_null : (d : Data) → is_null d ≡ false → d ≢ null
is_not_null d e is = true≢false (sym (ap is_null is) ∙ e)

-- only a `detail` is written as null
pub never_null : (s : Shape) (p : Plain) → WellFormed s → is_null (value s p) ≡ false
never_null text p w = refl
never_null truth p w = refl
never_null (whole low high) p w = refl
never_null (named table) p w = refl
never_null (open_name table) p w = refl
never_null digest_text p w = refl
never_null cpu_text p w = refl
never_null (cap_set table) p w = refl
never_null (list s) p w = refl
never_null (map s) p w = refl
never_null key_set p w = refl
never_null detail p w = absurd w
never_null free_map p w = refl
never_null (rows rs) p w = refl

-- ---- members

-- under no name of the list stands anything
abbrev NoneOf : List (List ℕ) → Members → Type 0
NoneOf [] ms = ⊤
NoneOf (t ∷ ts) ms = (get_member t ms ≡ None) × NoneOf ts ms

-- nothing stands in no members
none_at_first : (ts : List (List ℕ)) → NoneOf ts no_members
none_at_first [] = tt
none_at_first (t ∷ ts) = (refl, none_at_first ts)

-- what is omitted where it is null
unless_null_read : (M : Data → Plain → Type 0) (d : Data) (q : Plain) → (is_null d ≡ false → M d q)
    → IsThereOr empty M (unless_null d) (cond (is_null d) empty (filled q))
unless_null_read M null q m = refl
unless_null_read M (boolean b) q m = m refl
unless_null_read M (number n) q m = m refl
unless_null_read M (string t) q m = m refl
unless_null_read M (array ds) q m = m refl
unless_null_read M (object ms) q m = m refl

-- what is omitted where it is an empty list
unless_empty_read : (M : Data → Plain → Type 0) (ds : Items) (q : Plain) → M (array ds) q
    → IsThereOr empty M (option_and_then unless_null (cond (is_empty_array (array ds)) None (Some (array ds)))) (cond (is_empty_array (array ds)) empty (filled q))
unless_empty_read M no_items q m = refl
unless_empty_read M (item d ds) q m = m

-- a shape's reading of what is written for it
abbrev IsReadBack : Shape → Type 0
IsReadBack s = (p : Plain) → Fits s p → Writable s p → is_null (value s p) ≡ false → Means s (value s p) (norm s p)

-- what is written for a member is read as the normal form has it
member_read : (presence : Presence) (s : Shape) → MemberIsWellFormed presence s (WellFormed s) → (MayBe s → IsReadBack s)
    → (x : Slot) → FitsMember presence (Fits s) x → IfFilled (Writable s) x
    → MeansMember presence (Means s) (member_value presence (value s) x) (norm_member presence (value s) (norm s) x)
unfolding MayBe
member_read required s w f empty fits writable = absurd fits
member_read required s w f (filled p) fits writable = f (may_be s (WellFormed s) w) p fits writable (never_null s p w)
member_read (defaulted q) s w f empty fits writable = absurd fits
member_read (defaulted q) s w f (filled p) fits writable = f (may_be s (WellFormed s) w.0) p fits writable (never_null s p w.0)
member_read optional s w f empty fits writable = refl
member_read optional s w f (filled p) fits writable = unless_null_read (Means s) (value s p) (norm s p) (f w p fits writable)
member_read nullable s w f empty fits writable = refl
member_read nullable s w f (filled p) fits writable = unless_null_read (Means s) (value s p) (norm s p) (f (may_be s (WellFormed s) w) p fits writable)
member_read unless_empty s w f empty fits writable = refl
member_read unless_empty (list s) w f (filled p) fits writable =
    unless_empty_read (Means (list s)) (each_value (value s) (list_of p)) (norm (list s) p) (f (may_be (list s) (WellFormed s) w) p fits writable refl)
member_read unless_empty _ w f (filled p) fits writable = absurd w

-- ---- parts

-- the items of a list
each_read : (M : Data → Plain → Type 0) (F W : Plain → Type 0) (v : Plain → Data) (n : Plain → Plain) → ((p : Plain) → F p → W p → M (v p) (n p))
    → (ps : Plains) → Each F ps → Each W ps → EachMeans M (each_value v ps) (each_plain n ps)
each_read M F W v n f no_plains fits writable = tt
each_read M F W v n f (plain.plain p ps) fits writable = (f p fits.0 writable.0, each_read M F W v n f ps fits.1 writable.1)

-- the members of a map
each_entry_read : (M : Data → Plain → Type 0) (F W : Plain → Type 0) (v : Plain → Data) (n : Plain → Plain) → ((p : Plain) → F p → W p → M (v p) (n p))
    → (es : Entries) → EachEntry F es → EachEntry W es → EachEntryMeans M (each_entry_value v es) (each_entry n es)
each_entry_read M F W v n f no_entries fits writable = tt
each_entry_read M F W v n f (entry k p es) fits writable = (refl, f p fits.0 writable.0, each_entry_read M F W v n f es fits.1 writable.1)

-- a name that is not among others, and what follows of theirs
apart : (t : List ℕ) (ts : List (List ℕ)) → no_text_twice (t ∷ ts) ≡ true → (is_listed ts t ≡ false) × (no_text_twice ts ≡ true)
apart t ts e = let b = and_parts (not (is_listed ts t)) (no_text_twice ts) e in (not-true (is_listed ts t) b.0, b.1)

-- names that are apart from a written one still have nothing
none_kept : (ts : List (List ℕ)) (name : List ℕ) (o : Option Data) (ms : Members) → is_listed ts name ≡ false → NoneOf ts ms → NoneOf ts (with_member name o ms)
none_kept [] name o ms e none = tt
none_kept (t ∷ ts) name o ms e none =
    let n = not_listed name t ts e in
    (kept_one t name o ms (λ same. n.0 (sym same)) ∙ none.0, none_kept ts name o ms n.1 none.1)

-- an entry's names, and the rest
once_second : (second : Option (List ℕ)) (ts : List (List ℕ)) → no_text_twice (with_second second ts) ≡ true → no_text_twice ts ≡ true
once_second None ts e = e
once_second (Some name) ts e = (apart name ts e).1

-- the names behind an entry
none_rest : (second : Option (List ℕ)) (ts : List (List ℕ)) (ms : Members) → NoneOf (with_second second ts) ms → NoneOf ts ms
none_rest None ts ms none = none
none_rest (Some name) ts ms none = none.1

-- nothing is written under the second name
second_absent : (name : List ℕ) (second : Option (List ℕ)) (o : Option Data) (rs : Rows) (xs : Slots) (ms : Members)
    → no_text_twice (name ∷ with_second second (names rs)) ≡ true → NoneOf (with_second second (names rs)) ms
    → get_second second (object (with_rows rs xs (with_member name o ms))) ≡ None
second_absent name None o rs xs ms once none = refl
second_absent name (Some other) o rs xs ms once none =
    let a = apart name (other ∷ names rs) once in
    let b = apart other (names rs) a.1 in
    kept other rs xs (with_member name o ms) b.0 ∙ (none_kept (other ∷ names rs) name o ms a.0 none).0

-- what is written under the name alone is read there
either_read : (presence : Presence) (M : Data → Plain → Type 0) (found second o : Option Data) (x : Slot) → found ≡ o → second ≡ None
    → MeansMember presence M o x → MeansEither presence M found second x
either_read presence M found second o x e none m =
    subst (λ s. MeansEither presence M found s x) (sym none) (subst (λ f. MeansMember presence M f x) (sym e) m)

-- shape by shape
mutual
  unfolding MayBe

  pub read_back : (s : Shape) → MayBe s → (p : Plain) → Fits s p → Writable s p → is_null (value s p) ≡ false → Means s (value s p) (norm s p)
  read_back text may p fits writable k = subst (λ p. Means text (value text p) (norm text p)) (sym fits.1) (_, refl, refl)
  read_back truth may p fits writable k = subst (λ p. Means truth (value truth p) (norm truth p)) (sym fits.1) (_, refl, refl)
  read_back (whole low high) may p fits writable k =
      subst (λ p. Means (whole low high) (value (whole low high) p) (norm (whole low high) p)) (sym fits.1) (fits.0, whole_read fits.0, refl, fits.2, fits.3)
  read_back (named table) may p fits writable k =
      subst (λ p. Means (named table) (value (named table) p) (norm (named table) p)) (sym fits.1) (fits.0, refl, refl, fits.2)
  read_back (open_name table) may (plain.variant t) fits writable k = (t, refl, sym (opened_listed table t fits))
  read_back (open_name table) may (plain.other t) fits writable k = (t, refl, refl)
  read_back (open_name table) may _ fits writable k = absurd fits
  read_back digest_text may p fits writable k =
      subst (λ p. Means digest_text (value digest_text p) (norm digest_text p)) (sym fits.1) (fits.0, refl, refl, fits.2)
  read_back cpu_text may p fits writable k =
      subst (λ p. Writable cpu_text p → Means cpu_text (value cpu_text p) (norm cpu_text p)) (sym fits.1) (λ w. (fits.0, refl, refl, w)) writable
  read_back (cap_set table) may p fits writable k =
      subst (λ p. Means (cap_set table) (value (cap_set table) p) (norm (cap_set table) p)) (sym fits.1)
      (let r = set_read table fits.0 may fits.2 in (_, fits.0, refl, refl, r.0, r.1))
  read_back (list s) may p fits writable k = (
    _,
    _,
    refl,
    refl,
    each_read (Means s) (λ q. Fits s q) (λ q. Writable s q) (value s) (norm s)
        (λ q f w. read_back s (may_be s (WellFormed s) may) q f w (never_null s q may)) (list_of p)
        (subst (λ p. Each (Fits s) (list_of p)) (sym fits.1) fits.2) writable,
  )
  read_back (map s) may p fits writable k = (
    _,
    _,
    refl,
    refl,
    each_entry_read (Means s) (λ q. Fits s q) (λ q. Writable s q) (value s) (norm s)
        (λ q f w. read_back s (may_be s (WellFormed s) may) q f w (never_null s q may)) (map_of p)
        (subst (λ p. EachEntry (Fits s) (map_of p)) (sym fits.1) fits.2) writable,
  )
  read_back key_set may p fits writable k =
      (_, refl, ap plain.keys (sym (names_of_empty_objects (sorted (keys_of p)))), are_objects (sorted (keys_of p)))
  read_back detail may p fits writable k =
      (is_not_null (value detail p) k, subst (λ o. has_float (unwrap_or o null) ≡ false) (sym writable.1) writable.2, refl)
  read_back free_map may p fits writable k = (_, refl, ap plain.free (sym (free_values_read (free_of p))), writable)
  read_back (rows rs) may p fits writable k =
      (_, refl, refl, rows_read rs may.1 may.0 (document_of p) (subst (λ p. FitsRows rs (document_of p)) (sym fits.1) fits.2) writable no_members (none_at_first (names rs)))

  rows_read : (rs : Rows) → AreWellFormed rs → no_text_twice (names rs) ≡ true → (xs : Slots) → FitsRows rs xs → AreWritable rs xs
      → (ms : Members) → NoneOf (names rs) ms → MeansRows rs (object (with_rows rs xs ms)) (norm_rows rs xs)
  rows_read no_rows well once no_slots fits writable ms none = tt
  rows_read no_rows well once (slot x xs) fits writable ms none = absurd fits
  rows_read (row name second presence s rs) well once no_slots fits writable ms none = absurd fits
  rows_read (row name second presence s rs) well once (slot x xs) fits writable ms none =
      let a = apart name (with_second second (names rs)) once in
      let rest = with_member name (member_value presence (value s) x) ms in (
        either_read presence (Means s) _ _ (member_value presence (value s) x) _
            (first_written name second presence s rs x xs ms (not_later name second (names rs) a.0) none.0)
            (second_absent name second (member_value presence (value s) x) rs xs ms once none.1)
            (member_read presence s well.0 (λ may p. read_back s may p) x fits.0 writable.0),
        rows_read rs well.1 (once_second second (names rs) a.1) xs fits.1 writable.1 rest
            (none_rest second (names rs) rest (none_kept (with_second second (names rs)) name (member_value presence (value s) x) ms a.0 none.1)),
      )
