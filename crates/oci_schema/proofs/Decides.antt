-- The computation decides the meaning.
use Rattle.std.proofs.Common.{◌≡◌, ◌≢◌, refl, sym, ap, ◌∙◌, subst, Bool, true, false, true≢false, not, ◌&&◌, ◌||◌, List, [], ◌∷◌, Option, Some, None, is_some, ℕ, ℤ, inl, inr}
use Rattle.std.specs.Prelude.{◌↔◌, ◌⊎◌, ◌≤ℤ◌, int_le, T}
use lib.Signed.{le_z_yes}
use Rattle.serde_json.specs.Data.{Data, null, boolean, number, string, array, object, Items, no_items, item, Members, no_members, member}
use Rattle.serde_json.specs.Find.{as_bool, as_str, as_array, as_object, as_null, get}
use Rattle.serde_json.specs.Written.{has_float, members_have_float, compact_text}
use Rattle.oci_base.specs.Names.{is_listed}
use Rattle.oci_model.specs.Plain as plain
use Rattle.oci_model.specs.Plain.{Plain, Plains, no_plains, Entries, no_entries, entry, Slot, empty, filled, Slots, no_slots, slot}
use Rattle.oci_model.specs.Shape as shape
use Rattle.oci_model.specs.Shape.{Presence, required, defaulted, optional, nullable, unless_empty, Shape, text, truth, whole, named, open_name, digest_text, cpu_text, cap_set, list, key_set, detail, free_map, rows, Rows, no_rows, row}
use Rattle.oci_model.specs.Means.{Means, MeansRows, MeansEither, MeansMember, EachMeans, EachEntryMeans, IsThere, IsThereOr, is_object, get_second, unless_null, as_whole, opened, member_names, free_values, AreObjects, IsCapability, AreCapabilities, SomeIs, IsSetOf}
use Rattle.oci_text.specs.CpuScan.{is_cpu_text}
use Rattle.oci_text.proofs.CpuLists.{cpu_list_decides}
use Rattle.oci_schema.specs.Allows.{allows, rows_allow, each_allowed, items_allowed, each_member_allowed, members_allowed, text_allowed, names_capability, is_in_range, are_free, member_allowed, either_allowed, is_digest_text, is_spelled, is_capability, item_is, some_is, set_in}
use Rattle.oci_schema.proofs.Texts.{digest_decides, capability_decides, spelled_decides}

pub both : (a b : Bool) → a ≡ true → b ≡ true → (a && b) ≡ true
both a b e h = rw (e, h)

pub first_of : (a b : Bool) → (a && b) ≡ true → a ≡ true
first_of true b e = refl
first_of false b e = e

pub later_of : (a b : Bool) → (a && b) ≡ true → b ≡ true
later_of true b e = e
later_of false b e = absurd (true≢false (sym e))

pub refuted : (b : Bool) → not b ≡ true → b ≡ false
refuted true e = absurd (true≢false (sym e))
refuted false e = refl

abbrev Meant : Shape → Data → Type 0
Meant s d = (p : Plain) × Means s d p

abbrev Yes : (Data → Bool) → (Data → Plain → Type 0) → Type 0
Yes f M = (d : Data) → f d ≡ true → (p : Plain) × M d p

abbrev Back : (Data → Bool) → (Data → Plain → Type 0) → Type 0
Back f M = (d : Data) (p : Plain) → M d p → f d ≡ true

given : {A : Type 0} (o : Option A) → is_some o ≡ true → (x : A) × (o ≡ Some x)
given None e = absurd (true≢false (sym e))
given (Some x) e = (x, refl)

given_text : (f : List ℕ → Bool) (o : Option (List ℕ)) → text_allowed f o ≡ true → (t : List ℕ) × (o ≡ Some t) × (f t ≡ true)
given_text f None e = absurd (true≢false (sym e))
given_text f (Some t) e = (t, refl, e)

held : (b : Bool) → T b → b ≡ true
held true h = refl
held false h = absurd h

in_order : (a b : ℤ) → int_le a b ≡ true → a ≤ℤ b
in_order a b e = le_z_yes (subst T (sym e) tt)

given_whole : (low high : ℤ) (o : Option ℤ) → is_in_range low high o ≡ true → (z : ℤ) × (o ≡ Some z) × (low ≤ℤ z) × (z ≤ℤ high)
given_whole low high None e = absurd (true≢false (sym e))
given_whole low high (Some z) e = (z, refl, in_order low z (first_of (int_le low z) (int_le z high) e), in_order z high (later_of (int_le low z) (int_le z high) e))

-- ---- sets of capabilities

item_decides : (d : Data) (name : List ℕ) → (item_is d name ≡ true) ↔ IsCapability d name
item_decides d name = (
  (λ e. let t = given_text (λ u. is_spelled u name) (as_str d) e in (t.0, t.1, (spelled_decides t.0 name).0 t.2)),
  (λ m. ap (text_allowed (λ u. is_spelled u name)) m.1 ∙ (spelled_decides m.0 name).1 m.2),
)

either_of : (a b : Bool) (P Q : Type 0) → (a ≡ true) ↔ P → (b ≡ true) ↔ Q → ((a || b) ≡ true) ↔ (P ⊎ Q)
either_of true b P Q h k = ((λ e. inl (h.0 refl)), (λ m. refl))
either_of false b P Q h k = ((λ e. inr (k.0 e)), from)
  where
    from : P ⊎ Q → b ≡ true
    from (inl p) = absurd (true≢false (sym (h.1 p)))
    from (inr q) = k.1 q

never : {P : Type 0} → (P → ⊥) → (false ≡ true) ↔ P
never f = ((λ e. absurd (true≢false (sym e))), (λ m. absurd (f m)))

pub some_decides : (ds : Items) (name : List ℕ) → (some_is ds name ≡ true) ↔ SomeIs ds name
some_decides no_items name = never (λ m. m)
some_decides (item d ds) name = either_of (item_is d name) (some_is ds name) (IsCapability d name) (SomeIs ds name) (item_decides d name) (some_decides ds name)

set_of_items : (table : List (List ℕ)) (ds : Items) → IsSetOf table ds (set_in table ds)
set_of_items [] ds = tt
set_of_items (name ∷ table) ds = (some_decides ds name, set_of_items table ds)

are_capabilities : (table : List (List ℕ)) (ds : Items) → each_allowed (names_capability table) ds ≡ true → AreCapabilities table ds
are_capabilities table no_items e = tt
are_capabilities table (item d ds) e =
    let t = given_text (is_capability table) (as_str d) (first_of (names_capability table d) _ e) in
    let named = (capability_decides table t.0).0 t.2 in
    ((named.0, named.1, (t.0, t.1, named.2)), are_capabilities table ds (later_of (names_capability table d) _ e))

capabilities_back : (table : List (List ℕ)) (ds : Items) → AreCapabilities table ds → each_allowed (names_capability table) ds ≡ true
capabilities_back table no_items m = refl
capabilities_back table (item d ds) m =
    both (names_capability table d) _ (ap (text_allowed (is_capability table)) m.0.2.1 ∙ (capability_decides table m.0.2.0).1 (m.0.0, m.0.1, m.0.2.2)) (capabilities_back table ds m.1)

capabilities_yes : (table : List (List ℕ)) (o : Option Items) (d : Data) → as_array d ≡ o → items_allowed (names_capability table) o ≡ true → Meant (cap_set table) d
capabilities_yes table None d is e = absurd (true≢false (sym e))
capabilities_yes table (Some ds) d is e = (plain.set (set_in table ds), (ds, set_in table ds, is, refl, are_capabilities table ds e, set_of_items table ds))

-- ---- objects whose members all count

are_objects : (ms : Members) → each_member_allowed is_object ms ≡ true → AreObjects ms
are_objects no_members e = tt
are_objects (member k d ms) e = (given (as_object d) (first_of (is_object d) _ e), are_objects ms (later_of (is_object d) _ e))

objects_back : (ms : Members) → AreObjects ms → each_member_allowed is_object ms ≡ true
objects_back no_members m = refl
objects_back (member k d ms) m = both (is_object d) _ (ap is_some m.0.1) (objects_back ms m.1)

keys_yes : (o : Option Members) (d : Data) → as_object d ≡ o → members_allowed is_object o ≡ true → Meant key_set d
keys_yes None d is e = absurd (true≢false (sym e))
keys_yes (Some ms) d is e = (plain.keys (member_names ms), (ms, is, refl, are_objects ms e))

free_yes : (o : Option Members) (d : Data) → as_object d ≡ o → are_free o ≡ true → Meant free_map d
free_yes None d is e = absurd (true≢false (sym e))
free_yes (Some ms) d is e = (plain.free (free_values ms), (ms, is, refl, refuted (members_have_float ms) e))

other_than_null : (d : Data) → not (is_some (as_null d)) ≡ true → d ≢ null
other_than_null null e h = true≢false (sym e)
other_than_null (boolean b) e h = cc
other_than_null (number n) e h = cc
other_than_null (string t) e h = cc
other_than_null (array ds) e h = cc
other_than_null (object ms) e h = cc

no_null : (d : Data) → d ≢ null → not (is_some (as_null d)) ≡ true
no_null null f = absurd (f refl)
no_null (boolean b) f = refl
no_null (number n) f = refl
no_null (string t) f = refl
no_null (array ds) f = refl
no_null (object ms) f = refl

-- ---- where it is allowed, something is meant

each_yes : (f : Data → Bool) (M : Data → Plain → Type 0) → Yes f M → (ds : Items) → each_allowed f ds ≡ true → (ps : Plains) × EachMeans M ds ps
each_yes f M sure no_items e = (no_plains, tt)
each_yes f M sure (item d ds) e =
    let one = sure d (first_of _ _ e) in
    let more = each_yes f M sure ds (later_of (f d) _ e) in
    (plain.plain one.0 more.0, (one.1, more.1))

items_yes : (s : Shape) → Yes (allows s) (Means s) → (o : Option Items) (d : Data) → as_array d ≡ o → items_allowed (allows s) o ≡ true → Meant (list s) d
items_yes s sure None d is e = absurd (true≢false (sym e))
items_yes s sure (Some ds) d is e = let ps = each_yes (allows s) (Means s) sure ds e in (plain.list ps.0, (ds, ps.0, is, refl, ps.1))

each_member_yes : (f : Data → Bool) (M : Data → Plain → Type 0) → Yes f M → (ms : Members) → each_member_allowed f ms ≡ true → (es : Entries) × EachEntryMeans M ms es
each_member_yes f M sure no_members e = (no_entries, tt)
each_member_yes f M sure (member k d ms) e =
    let one = sure d (first_of _ _ e) in
    let more = each_member_yes f M sure ms (later_of (f d) _ e) in
    (entry k one.0 more.0, (refl, one.1, more.1))

members_yes : (s : Shape) → Yes (allows s) (Means s) → (o : Option Members) (d : Data) → as_object d ≡ o → members_allowed (allows s) o ≡ true → Meant (shape.map s) d
members_yes s sure None d is e = absurd (true≢false (sym e))
members_yes s sure (Some ms) d is e = let es = each_member_yes (allows s) (Means s) sure ms e in (plain.map es.0, (ms, es.0, is, refl, es.1))

-- a member that may be null
null_yes : (f : Data → Bool) (M : Data → Plain → Type 0) → Yes f M → (d : Data) → (is_some (as_null d) || f d) ≡ true → (x : Slot) × IsThereOr empty M (unless_null d) x
null_yes f M sure null e = (empty, refl)
null_yes f M sure (boolean b) e = let m = sure (boolean b) e in (filled m.0, m.1)
null_yes f M sure (number b) e = let m = sure (number b) e in (filled m.0, m.1)
null_yes f M sure (string b) e = let m = sure (string b) e in (filled m.0, m.1)
null_yes f M sure (array b) e = let m = sure (array b) e in (filled m.0, m.1)
null_yes f M sure (object b) e = let m = sure (object b) e in (filled m.0, m.1)

member_yes : (presence : Presence) (f : Data → Bool) (M : Data → Plain → Type 0) → Yes f M → (found : Option Data) → member_allowed presence f found ≡ true → (x : Slot) × MeansMember presence M found x
member_yes required f M sure None e = absurd (true≢false (sym e))
member_yes required f M sure (Some d) e = let m = sure d e in (filled m.0, m.1)
member_yes (defaulted p) f M sure None e = (filled p, refl)
member_yes (defaulted p) f M sure (Some d) e = let m = sure d e in (filled m.0, m.1)
member_yes optional f M sure None e = (empty, refl)
member_yes optional f M sure (Some d) e = null_yes f M sure d e
member_yes nullable f M sure None e = (empty, refl)
member_yes nullable f M sure (Some d) e = null_yes f M sure d e
member_yes unless_empty f M sure None e = (empty, refl)
member_yes unless_empty f M sure (Some d) e = null_yes f M sure d e

either_yes : (presence : Presence) (f : Data → Bool) (M : Data → Plain → Type 0) → Yes f M → (found alias : Option Data) → either_allowed presence f found alias ≡ true → (x : Slot) × MeansEither presence M found alias x
either_yes presence f M sure found None e = member_yes presence f M sure found e
either_yes presence f M sure None (Some d) e = member_yes presence f M sure (Some d) e
either_yes presence f M sure (Some c) (Some d) e = absurd (true≢false (sym e))

mutual
  pub meant : (s : Shape) (d : Data) → allows s d ≡ true → Meant s d
  meant text d e = let t = given (as_str d) e in (plain.text t.0, (t.0, t.1, refl))
  meant truth d e = let t = given (as_bool d) e in (plain.truth t.0, (t.0, t.1, refl))
  meant (whole low high) d e = let z = given_whole low high (as_whole d) e in (plain.whole z.0, (z.0, z.1, refl, z.2, z.3))
  meant (named table) d e = let t = given_text (is_listed table) (as_str d) e in (plain.variant t.0, (t.0, t.1, refl, t.2))
  meant (open_name table) d e = let t = given (as_str d) e in (opened table t.0, (t.0, t.1, refl))
  meant digest_text d e = let t = given_text is_digest_text (as_str d) e in (plain.text t.0, (t.0, t.1, refl, (digest_decides t.0).0 t.2))
  meant cpu_text d e = let t = given_text is_cpu_text (as_str d) e in (plain.text t.0, (t.0, t.1, refl, (cpu_list_decides t.0).0 t.2))
  meant (cap_set table) d e = capabilities_yes table (as_array d) d refl e
  meant (list s) d e = items_yes s (λ x. meant s x) (as_array d) d refl e
  meant (shape.map s) d e = members_yes s (λ x. meant s x) (as_object d) d refl e
  meant key_set d e = keys_yes (as_object d) d refl e
  meant detail d e = (plain.text (compact_text d), (other_than_null d (first_of (not (is_some (as_null d))) _ e), refuted (has_float d) (later_of (not (is_some (as_null d))) _ e), refl))
  meant free_map d e = free_yes (as_object d) d refl e
  meant (rows rs) d e = let xs = meant_rows rs d (later_of (is_object d) _ e) in (plain.document xs.0, (xs.0, first_of _ _ e, refl, xs.1))

  meant_rows : (rs : Rows) (d : Data) → rows_allow rs d ≡ true → (xs : Slots) × MeansRows rs d xs
  meant_rows no_rows d e = (no_slots, tt)
  meant_rows (row name alias presence s rs) d e =
      let x = either_yes presence (allows s) (Means s) (λ y. meant s y) (get name d) (get_second alias d) (first_of _ _ e) in
      let xs = meant_rows rs d (later_of (either_allowed presence (allows s) (get name d) (get_second alias d)) _ e) in
      (slot x.0 xs.0, (x.1, xs.1))

-- ---- where something is meant, it is allowed

each_back : (f : Data → Bool) (M : Data → Plain → Type 0) → Back f M → (ds : Items) (ps : Plains) → EachMeans M ds ps → each_allowed f ds ≡ true
each_back f M back no_items ps m = refl
each_back f M back (item d ds) no_plains m = absurd m
each_back f M back (item d ds) (plain.plain p ps) m = both _ _ (back d p m.0) (each_back f M back ds ps m.1)

each_member_back : (f : Data → Bool) (M : Data → Plain → Type 0) → Back f M → (ms : Members) (es : Entries) → EachEntryMeans M ms es → each_member_allowed f ms ≡ true
each_member_back f M back no_members es m = refl
each_member_back f M back (member k d ms) no_entries m = absurd m
each_member_back f M back (member k d ms) (entry l p es) m = both _ _ (back d p m.1) (each_member_back f M back ms es m.2)

null_back : (f : Data → Bool) (M : Data → Plain → Type 0) → Back f M → (d : Data) (x : Slot) → IsThereOr empty M (unless_null d) x → (is_some (as_null d) || f d) ≡ true
null_back f M back null x m = refl
null_back f M back (boolean b) empty m = absurd m
null_back f M back (boolean b) (filled p) m = back _ p m
null_back f M back (number b) empty m = absurd m
null_back f M back (number b) (filled p) m = back _ p m
null_back f M back (string b) empty m = absurd m
null_back f M back (string b) (filled p) m = back _ p m
null_back f M back (array b) empty m = absurd m
null_back f M back (array b) (filled p) m = back _ p m
null_back f M back (object b) empty m = absurd m
null_back f M back (object b) (filled p) m = back _ p m

there_back : (f : Data → Bool) (M : Data → Plain → Type 0) → Back f M → (d : Data) (x : Slot) → IsThere M (Some d) x → f d ≡ true
there_back f M back d empty m = absurd m
there_back f M back d (filled p) m = back d p m

member_back : (presence : Presence) (f : Data → Bool) (M : Data → Plain → Type 0) → Back f M → (found : Option Data) (x : Slot) → MeansMember presence M found x → member_allowed presence f found ≡ true
member_back required f M back None x m = absurd m
member_back required f M back (Some d) x m = there_back f M back d x m
member_back (defaulted p) f M back None x m = refl
member_back (defaulted p) f M back (Some d) x m = there_back f M back d x m
member_back optional f M back None x m = refl
member_back optional f M back (Some d) x m = null_back f M back d x m
member_back nullable f M back None x m = refl
member_back nullable f M back (Some d) x m = null_back f M back d x m
member_back unless_empty f M back None x m = refl
member_back unless_empty f M back (Some d) x m = null_back f M back d x m

either_back : (presence : Presence) (f : Data → Bool) (M : Data → Plain → Type 0) → Back f M → (found alias : Option Data) (x : Slot) → MeansEither presence M found alias x → either_allowed presence f found alias ≡ true
either_back presence f M back found None x m = member_back presence f M back found x m
either_back presence f M back None (Some d) x m = member_back presence f M back (Some d) x m
either_back presence f M back (Some c) (Some d) x m = absurd m

mutual
  pub allowed : (s : Shape) (d : Data) (p : Plain) → Means s d p → allows s d ≡ true
  allowed text d p m = ap is_some m.1
  allowed truth d p m = ap is_some m.1
  allowed (whole low high) d p m = ap (is_in_range low high) m.1 ∙ both _ _ (held _ m.3.le) (held _ m.4.le)
  allowed (named table) d p m = ap (text_allowed (is_listed table)) m.1 ∙ m.3
  allowed (open_name table) d p m = ap is_some m.1
  allowed digest_text d p m = ap (text_allowed is_digest_text) m.1 ∙ (digest_decides m.0).1 m.3
  allowed cpu_text d p m = ap (text_allowed is_cpu_text) m.1 ∙ (cpu_list_decides m.0).1 m.3
  allowed (cap_set table) d p m = ap (items_allowed (names_capability table)) m.2 ∙ capabilities_back table m.0 m.4
  allowed (list s) d p m = ap (items_allowed (allows s)) m.2 ∙ each_back (allows s) (Means s) (λ x q. allowed s x q) m.0 m.1 m.4
  allowed (shape.map s) d p m = ap (members_allowed (allows s)) m.2 ∙ each_member_back (allows s) (Means s) (λ x q. allowed s x q) m.0 m.1 m.4
  allowed key_set d p m = ap (members_allowed is_object) m.1 ∙ objects_back m.0 m.3
  allowed detail d p m = both _ _ (no_null d m.0) (ap not m.1)
  allowed free_map d p m = ap are_free m.1 ∙ ap not m.3
  allowed (rows rs) d p m = both _ _ m.1 (allowed_rows rs d m.0 m.3)

  allowed_rows : (rs : Rows) (d : Data) (xs : Slots) → MeansRows rs d xs → rows_allow rs d ≡ true
  allowed_rows no_rows d xs m = refl
  allowed_rows (row name alias presence s rs) d no_slots m = absurd m
  allowed_rows (row name alias presence s rs) d (slot x xs) m = both _ _ (either_back presence (allows s) (Means s) (λ y q. allowed s y q) (get name d) (get_second alias d) x m.0) (allowed_rows rs d xs m.1)

pub decides : (s : Shape) (d : Data) (b : Bool) → b ≡ allows s d → (b ≡ true) ↔ Meant s d
decides s d b e = ((λ h. meant s d (sym e ∙ h)), (λ m. e ∙ allowed s d m.0 m.1))
