-- JSON means at most one plain tree.
use Rattle.std.proofs.Common.{◌≡◌, ℕ, List, [], ◌∷◌, Bool, true, false, Option, Some, None, refl, ◌∙◌, sym, ap, subst}
use Rattle.std.specs.Prelude.{◌↔◌, IsTrue, option_and_then}
use Rattle.serde_json.specs.Data.{Data, Items, no_items, item, Members, no_members, member}
use Rattle.serde_json.specs.Find.{as_bool, as_str, as_array, as_object, get}
use Rattle.oci_model.specs.Plain as plain
use Rattle.oci_model.specs.Plain.{Plain, Plains, no_plains, Entries, no_entries, entry, Slot, empty, filled, Slots, no_slots, slot}
use Rattle.oci_model.specs.Shape.{Presence, required, defaulted, optional, nullable, unless_empty, Shape, text, truth, whole, named, open_name, digest_text, cpu_text, cap_set, list, map, key_set, detail, free_map, rows, Rows, no_rows, row}
use Rattle.oci_model.specs.Means.{as_whole, opened, unless_null, SomeIs, IsSetOf, member_names, free_values, EachMeans, EachEntryMeans, IsThere, IsThereOr, MeansMember, get_second, MeansEither, Means, MeansRows}

-- a meaning of which there is at most one
abbrev IsOne : (Data → Plain → Type 0) → Type 0
IsOne M = (d : Data) (p q : Plain) → M d p → M d q → p ≡ q

-- what is found is one thing
one_some : {A : Type 0} (o : Option A) (x y : A) → o ≡ Some x → o ≡ Some y → x ≡ y
one_some o x y e f = let k = sym e ∙ f in cc

-- a flag that says whether a fact holds
one_flag : (b c : Bool) (X : Type 0) → (IsTrue b ↔ X) → (IsTrue c ↔ X) → b ≡ c
one_flag true true X h k = refl
one_flag false false X h k = refl
one_flag true false X h k = sym (k.1 (h.0 refl))
one_flag false true X h k = h.1 (k.0 refl)

-- the set of an array
one_set : (table : List (List ℕ)) (ds : Items) (bs cs : List Bool) → IsSetOf table ds bs → IsSetOf table ds cs → bs ≡ cs
one_set [] ds [] [] h k = refl
one_set [] ds (b ∷ bs) cs h k = absurd h
one_set [] ds [] (c ∷ cs) h k = absurd k
one_set (name ∷ table) ds [] cs h k = absurd h
one_set (name ∷ table) ds (b ∷ bs) [] h k = absurd k
one_set (name ∷ table) ds (b ∷ bs) (c ∷ cs) h k =
    let e = one_flag b c (SomeIs ds name) h.0 k.0 in
    let f = one_set table ds bs cs h.1 k.1 in
    cc

-- the list of an array
one_each : (M : Data → Plain → Type 0) → IsOne M → (ds : Items) (ps qs : Plains) → EachMeans M ds ps → EachMeans M ds qs → ps ≡ qs
one_each M one no_items no_plains no_plains h k = refl
one_each M one no_items (plain.plain p ps) qs h k = absurd h
one_each M one no_items no_plains (plain.plain q qs) h k = absurd k
one_each M one (item d ds) no_plains qs h k = absurd h
one_each M one (item d ds) (plain.plain p ps) no_plains h k = absurd k
one_each M one (item d ds) (plain.plain p ps) (plain.plain q qs) h k =
    let e = one d p q h.0 k.0 in
    let f = one_each M one ds ps qs h.1 k.1 in
    cc

-- the map of an object
one_each_entry : (M : Data → Plain → Type 0) → IsOne M → (ms : Members) (es fs : Entries) → EachEntryMeans M ms es → EachEntryMeans M ms fs → es ≡ fs
one_each_entry M one no_members no_entries no_entries h k = refl
one_each_entry M one no_members (entry l p es) fs h k = absurd h
one_each_entry M one no_members no_entries (entry l q fs) h k = absurd k
one_each_entry M one (member l d ms) no_entries fs h k = absurd h
one_each_entry M one (member l d ms) (entry a p es) no_entries h k = absurd k
one_each_entry M one (member l d ms) (entry a p es) (entry b q fs) h k =
    let a_is : a ≡ l = h.0 in
    let b_is : b ≡ l = k.0 in
    let e = one d p q h.1 k.1 in
    let f = one_each_entry M one ms es fs h.2 k.2 in
    cc

-- a member that is there
one_there : (M : Data → Plain → Type 0) → IsOne M → (found : Option Data) (x y : Slot) → IsThere M found x → IsThere M found y → x ≡ y
one_there M one None x y h k = absurd h
one_there M one (Some d) empty y h k = absurd h
one_there M one (Some d) (filled p) empty h k = absurd k
one_there M one (Some d) (filled p) (filled q) h k = ap filled (one d p q h k)

-- a member that may be there
one_there_or : (otherwise : Slot) (M : Data → Plain → Type 0) → IsOne M → (found : Option Data) (x y : Slot)
    → IsThereOr otherwise M found x → IsThereOr otherwise M found y → x ≡ y
one_there_or otherwise M one None x y h k = h ∙ sym k
one_there_or otherwise M one (Some d) x y h k = one_there M one (Some d) x y h k

-- a listed member
one_member : (presence : Presence) (M : Data → Plain → Type 0) → IsOne M → (found : Option Data) (x y : Slot)
    → MeansMember presence M found x → MeansMember presence M found y → x ≡ y
one_member required M one found x y h k = one_there M one found x y h k
one_member (defaulted p) M one found x y h k = one_there_or (filled p) M one found x y h k
one_member optional M one found x y h k = one_there_or empty M one (option_and_then unless_null found) x y h k
one_member nullable M one found x y h k = one_there_or empty M one (option_and_then unless_null found) x y h k
one_member unless_empty M one found x y h k = one_there_or empty M one (option_and_then unless_null found) x y h k

-- a listed member under either of its names
one_either : (presence : Presence) (M : Data → Plain → Type 0) → IsOne M → (found second : Option Data) (x y : Slot)
    → MeansEither presence M found second x → MeansEither presence M found second y → x ≡ y
one_either presence M one found None x y h k = one_member presence M one found x y h k
one_either presence M one None (Some d) x y h k = one_member presence M one (Some d) x y h k
one_either presence M one (Some c) (Some d) x y h k = absurd h

-- shape by shape
mutual
  pub one_meaning : (s : Shape) (d : Data) (p q : Plain) → Means s d p → Means s d q → p ≡ q
  one_meaning text d p q h k = h.2 ∙ ap plain.text (one_some (as_str d) h.0 k.0 h.1 k.1) ∙ sym k.2
  one_meaning truth d p q h k = h.2 ∙ ap plain.truth (one_some (as_bool d) h.0 k.0 h.1 k.1) ∙ sym k.2
  one_meaning (whole low high) d p q h k = h.2 ∙ ap plain.whole (one_some (as_whole d) h.0 k.0 h.1 k.1) ∙ sym k.2
  one_meaning (named table) d p q h k = h.2 ∙ ap plain.variant (one_some (as_str d) h.0 k.0 h.1 k.1) ∙ sym k.2
  one_meaning (open_name table) d p q h k = h.2 ∙ ap (opened table) (one_some (as_str d) h.0 k.0 h.1 k.1) ∙ sym k.2
  one_meaning digest_text d p q h k = h.2 ∙ ap plain.text (one_some (as_str d) h.0 k.0 h.1 k.1) ∙ sym k.2
  one_meaning cpu_text d p q h k = h.2 ∙ ap plain.text (one_some (as_str d) h.0 k.0 h.1 k.1) ∙ sym k.2
  one_meaning (cap_set table) d p q h k =
      let same = one_some (as_array d) h.0 k.0 h.2 k.2 in
      let k' = subst (λ ds. IsSetOf table ds k.1) (sym same) k.5 in
      h.3 ∙ ap plain.set (one_set table h.0 h.1 k.1 h.5 k') ∙ sym k.3
  one_meaning (list s) d p q h k =
      let same = one_some (as_array d) h.0 k.0 h.2 k.2 in
      let k' = subst (λ ds. EachMeans (Means s) ds k.1) (sym same) k.4 in
      h.3 ∙ ap plain.list (one_each (Means s) (λ d. one_meaning s d) h.0 h.1 k.1 h.4 k') ∙ sym k.3
  one_meaning (map s) d p q h k =
      let same = one_some (as_object d) h.0 k.0 h.2 k.2 in
      let k' = subst (λ ms. EachEntryMeans (Means s) ms k.1) (sym same) k.4 in
      h.3 ∙ ap plain.map (one_each_entry (Means s) (λ d. one_meaning s d) h.0 h.1 k.1 h.4 k') ∙ sym k.3
  one_meaning key_set d p q h k = h.2 ∙ ap (λ ms. plain.keys (member_names ms)) (one_some (as_object d) h.0 k.0 h.1 k.1) ∙ sym k.2
  one_meaning detail d p q h k = h.2 ∙ sym k.2
  one_meaning free_map d p q h k = h.2 ∙ ap (λ ms. plain.free (free_values ms)) (one_some (as_object d) h.0 k.0 h.1 k.1) ∙ sym k.2
  one_meaning (rows rs) d p q h k = h.2 ∙ ap plain.document (one_rows rs d h.0 k.0 h.3 k.3) ∙ sym k.2

  one_rows : (rs : Rows) (d : Data) (xs ys : Slots) → MeansRows rs d xs → MeansRows rs d ys → xs ≡ ys
  one_rows no_rows d no_slots no_slots h k = refl
  one_rows no_rows d (slot x xs) ys h k = absurd h
  one_rows no_rows d no_slots (slot y ys) h k = absurd k
  one_rows (row name second presence s rs) d no_slots ys h k = absurd h
  one_rows (row name second presence s rs) d (slot x xs) no_slots h k = absurd k
  one_rows (row name second presence s rs) d (slot x xs) (slot y ys) h k =
      let e = one_either presence (Means s) (λ d. one_meaning s d) (get name d) (get_second second d) x y h.0 k.0 in
      let f = one_rows rs d xs ys h.1 k.1 in
      cc
