-- A record's members, read one after the other.
use Rattle.std.proofs.Common.{◌≡◌, List, ℕ, [], ◌∷◌, Bool, true, false, ◌&&◌, ◌||◌, Option, Some, None, is_some, Result, Ok, Err, bytes_eq, refl, sym, subst, ap, ◌∙◌, true≢false, inl, inr}
use Rattle.std.specs.Result.{IfOk, IfErr}
use Rattle.std.specs.Prelude.{not}
use Rattle.std.proofs.lemmas.Slice.Eq.{bytes_eq-Decides}
use Rattle.serde_json.specs.Data.{Data, null, boolean, number, string, array, object, Members}
use Rattle.serde_json.specs.Find.{get, get_member, as_object}
use Rattle.oci_base.specs.Names.{is_listed, no_text_twice}
use Rattle.oci_base.specs.Refused.{IsSchema}
use Rattle.oci_base.specs.declared.error.OciSpecError.{OciSpecError}
use Rattle.oci_model.specs.Plain as plain
use Rattle.oci_model.specs.Plain.{Plain, Slot, Slots, no_slots, slot}
use Rattle.oci_model.specs.Shape.{Presence, Shape, rows, Rows, row, names, with_second}
use Rattle.oci_model.specs.Means.{is_object, get_second, Means, MeansEither, MeansMember, MeansRows}
use Rattle.oci_model.specs.Reading.{Agree, AreRefused, OneOf}
use Rattle.oci_model.specs.Refused.{IsRefused, IsMemberRefused}

-- what is left of an object has everything but these names as it was
abbrev Others : List (List ℕ) → Members → Members → Type 0
Others gone old new = (q : List ℕ) → is_listed gone q ≡ false → get_member q new ≡ get_member q old

both : (a b : Bool) → (a && b) ≡ true → (a ≡ true) × (b ≡ true)
both true true h = (refl, refl)
both true false h = cc h
both false b h = cc h

at_first : (a b : Bool) → a ≡ true → (a || b) ≡ true
at_first true b h = refl
at_first false b h = cc h

later : (a b : Bool) → b ≡ true → (a || b) ≡ true
later true b h = refl
later false b h = h

neither : (a b : Bool) → a ≡ false → b ≡ false → (a || b) ≡ false
neither false false h k = refl
neither false true h k = cc k
neither true b h k = cc h

unlisted : (b : Bool) → not b ≡ true → b ≡ false
unlisted false h = refl
unlisted true h = cc h

-- a listed name is none that is not
apart : (q name : List ℕ) (ns : List (List ℕ)) (b : Bool) → bytes_eq q name ≡ b → is_listed ns name ≡ false → is_listed ns q ≡ true → b ≡ false
apart q name ns true same here there = absurd (true≢false (sym there ∙ subst (λ n. is_listed ns n ≡ false) (sym ((bytes_eq-Decides q name).0 same)) here))
apart q name ns false same here there = refl

first_apart : (name : List ℕ) (ns : List (List ℕ)) → no_text_twice (name ∷ ns) ≡ true → is_listed ns name ≡ false
first_apart name ns distinct = unlisted (is_listed ns name) (both (not (is_listed ns name)) (no_text_twice ns) distinct).0

-- those after a member's names are none of these
after : (name : List ℕ) (second : Option (List ℕ)) (ns : List (List ℕ)) (q : List ℕ) → no_text_twice (name ∷ with_second second ns) ≡ true → is_listed ns q ≡ true → is_listed (name ∷ with_second second []) q ≡ false
after name None ns q distinct listed = neither (bytes_eq q name) false (apart q name ns (bytes_eq q name) refl (first_apart name ns distinct) listed) refl
after name (Some alias) ns q distinct listed =
    let more : no_text_twice (alias ∷ ns) ≡ true = (both (not (is_listed (alias ∷ ns) name)) (no_text_twice (alias ∷ ns)) distinct).1 in
    neither (bytes_eq q name) (bytes_eq q alias || false)
    (apart q name (alias ∷ ns) (bytes_eq q name) refl (first_apart name (alias ∷ ns) distinct) (later (bytes_eq q alias) (is_listed ns q) listed))
    (neither (bytes_eq q alias) false (apart q alias ns (bytes_eq q alias) refl (first_apart alias ns more) listed) refl)

listed_later : (second : Option (List ℕ)) (ns : List (List ℕ)) (q : List ℕ) → is_listed ns q ≡ true → is_listed (with_second second ns) q ≡ true
listed_later None ns q listed = listed
listed_later (Some alias) ns q listed = later (bytes_eq q alias) (is_listed ns q) listed

-- a member's own names are distinct, and so are those after it
pub own_distinct : (name : List ℕ) (second : Option (List ℕ)) (ns : List (List ℕ)) → no_text_twice (name ∷ with_second second ns) ≡ true → no_text_twice (name ∷ with_second second []) ≡ true
own_distinct name None ns distinct = refl
own_distinct name (Some alias) ns distinct = rw (alone (bytes_eq name alias) (is_listed ns name) (first_apart name (alias ∷ ns) distinct)) refl
  where
    alone : (a b : Bool) → (a || b) ≡ false → a ≡ false
    alone false b h = refl
    alone true b h = cc h

pub later_distinct : (name : List ℕ) (second : Option (List ℕ)) (ns : List (List ℕ)) → no_text_twice (name ∷ with_second second ns) ≡ true → no_text_twice ns ≡ true
later_distinct name None ns distinct = (both (not (is_listed ns name)) (no_text_twice ns) distinct).1
later_distinct name (Some alias) ns distinct = (both (not (is_listed ns alias)) (no_text_twice ns) (both (not (is_listed (alias ∷ ns) name)) (no_text_twice (alias ∷ ns)) distinct).1).1

-- ---- judged by what stands under one of its names

either_means : (presence : Presence) (M : Data → Plain → Type 0) (one found other : Option Data) (x : Slot) → OneOf one found other → MeansMember presence M one x → MeansEither presence M found other x
either_means presence M one found other x (inl is) m = subst (λ o. MeansEither presence M found o x) (sym is.0) (subst (λ o. MeansMember presence M o x) is.1 m)
either_means presence M None found other x (inr is) m = subst (λ o. MeansEither presence M o other x) (sym is.0) (subst (λ o. MeansEither presence M None o x) is.1 m)
either_means presence M (Some d) found other x (inr is) m = subst (λ o. MeansEither presence M o other x) (sym is.0) (subst (λ o. MeansEither presence M None o x) is.1 m)

means_either : (presence : Presence) (M : Data → Plain → Type 0) (one found other : Option Data) (x : Slot) → OneOf one found other → MeansEither presence M found other x → MeansMember presence M one x
means_either presence M one found other x (inl is) m = subst (λ o. MeansMember presence M o x) (sym is.1) (subst (λ o. MeansEither presence M found o x) is.0 m)
means_either presence M None found other x (inr is) m = subst (λ o. MeansEither presence M None o x) (sym is.1) (subst (λ o. MeansEither presence M o other x) is.0 m)
means_either presence M (Some d) found other x (inr is) m = subst (λ o. MeansEither presence M None o x) (sym is.1) (subst (λ o. MeansEither presence M o other x) is.0 m)

both_stand : (presence : Presence) (M : Data → Plain → Type 0) (found other : Option Data) (x : Slot) → is_some found ≡ true → is_some other ≡ true → MeansEither presence M found other x → ⊥
both_stand presence M None other x here there m = true≢false (sym here)
both_stand presence M (Some c) None x here there m = true≢false (sym there)
both_stand presence M (Some c) (Some d) x here there m = m

module _ (name : List ℕ) (second : Option (List ℕ)) (presence : Presence) (s : Shape) (rs : Rows) (old : Members) where
  agrees_first : (d : Data) → Agree (name ∷ with_second second (names rs)) old d → get_member name old ≡ get name d
  agrees_first d agree = agree name (at_first (bytes_eq name name) (is_listed (with_second second (names rs)) name) ((bytes_eq-Decides name name).1 refl))

  agrees_second : (second' : Option (List ℕ)) (d : Data) → second ≡ second' → Agree (name ∷ with_second second' (names rs)) old d → get_second second' (object old) ≡ get_second second' d
  agrees_second None d same agree = refl
  agrees_second (Some alias) d same agree =
      agree alias (later (bytes_eq alias name) (is_listed (alias ∷ names rs) alias) (at_first (bytes_eq alias alias) (is_listed (names rs) alias) ((bytes_eq-Decides alias alias).1 refl)))

  -- what stands in the object stands in the value
  stands : (d : Data) (x : Slot) → Agree (name ∷ with_second second (names rs)) old d
      → MeansEither presence (Means s) (get_member name old) (get_second second (object old)) x → MeansEither presence (Means s) (get name d) (get_second second d) x
  stands d x agree m =
      subst (λ o. MeansEither presence (Means s) (get name d) o x) (agrees_second second d refl agree) (subst (λ o. MeansEither presence (Means s) o (get_second second (object old)) x) (agrees_first d agree) m)

  stood : (d : Data) (x : Slot) → Agree (name ∷ with_second second (names rs)) old d
      → MeansEither presence (Means s) (get name d) (get_second second d) x → MeansEither presence (Means s) (get_member name old) (get_second second (object old)) x
  stood d x agree m =
      subst (λ o. MeansEither presence (Means s) o (get_second second (object old)) x) (sym (agrees_first d agree)) (subst (λ o. MeansEither presence (Means s) (get name d) o x) (sym (agrees_second second d refl agree)) m)

  -- something stands under both names
  pub both_refused : is_some (get_member name old) ≡ true → is_some (get_second second (object old)) ≡ true
      → (d : Data) → Agree (name ∷ with_second second (names rs)) old d → AreRefused (row name second presence s rs) d
  unfolding AreRefused
  both_refused here there d agree no_slots m = m
  both_refused here there d agree (slot x xs) m = both_stand presence (Means s) (get_member name old) (get_second second (object old)) x here there (stood d x agree m.0)

  -- the member means nothing
  pub first_refused : (one : Option Data) → OneOf one (get_member name old) (get_second second (object old)) → IsMemberRefused presence s one None
      → (d : Data) → Agree (name ∷ with_second second (names rs)) old d → AreRefused (row name second presence s rs) d
  unfolding IsMemberRefused AreRefused
  first_refused one by refused d agree no_slots m = m
  first_refused one by refused d agree (slot x xs) m = refused x (means_either presence (Means s) one (get_member name old) (get_second second (object old)) x by (stood d x agree m.0))

  module _ (new : Members) (distinct : no_text_twice (name ∷ with_second second (names rs)) ≡ true) (others : Others (name ∷ with_second second []) old new) where
    -- the other names, once the member is taken out
    agrees_later : (d : Data) → Agree (name ∷ with_second second (names rs)) old d → Agree (names rs) new d
    agrees_later d agree = λ q listed.
        others q (after name second (names rs) q distinct listed) ∙ agree q (later (bytes_eq q name) (is_listed (with_second second (names rs)) q) (listed_later second (names rs) q listed))

    -- the member and those after it
    pub first_and_rest : (one : Option Data) (x : Slot) (xs : Slots) → OneOf one (get_member name old) (get_second second (object old)) → MeansMember presence (Means s) one x
        → ((d : Data) → Agree (names rs) new d → MeansRows rs d xs) → (d : Data) → Agree (name ∷ with_second second (names rs)) old d → MeansRows (row name second presence s rs) d (slot x xs)
    first_and_rest one x xs by first rest d agree =
        (stands d x agree (either_means presence (Means s) one (get_member name old) (get_second second (object old)) x by first), rest d (agrees_later d agree))

    -- those after it mean nothing
    pub rest_refused : ((d : Data) → Agree (names rs) new d → AreRefused rs d) → (d : Data) → Agree (name ∷ with_second second (names rs)) old d → AreRefused (row name second presence s rs) d
    unfolding AreRefused
    rest_refused refused d agree no_slots m = m
    rest_refused refused d agree (slot x xs) m = refused d (agrees_later d agree) xs m.1

-- ---- a record

seen : (ms : Members) (d : Data) → Some ms ≡ as_object d → d ≡ object ms
seen ms null there = cc
seen ms (boolean b) there = cc
seen ms (number n) there = cc
seen ms (string t) there = cc
seen ms (array ds) there = cc
seen ms (object ns) there = let same : ns ≡ ms = cc in ap object same

record_means : (rs : Rows) (ms : Members) (d : Data) (xs : Slots) → Some ms ≡ as_object d → ((e : Data) → Agree (names rs) ms e → MeansRows rs e xs) → Means (rows rs) d (plain.document xs)
record_means rs ms d xs there told = subst (λ e. Means (rows rs) e (plain.document xs)) (sym (seen ms d there)) (xs, refl, refl, told (object ms) (λ q listed. refl))

record_refused : (rs : Rows) (ms : Members) (d : Data) → Some ms ≡ as_object d → ((e : Data) → Agree (names rs) ms e → AreRefused rs e) → IsRefused (rows rs) d
unfolding IsRefused AreRefused
record_refused rs ms d there told p m =
    let here : Means (rows rs) (object ms) p = subst (λ e. Means (rows rs) e p) (seen ms d there) m in
    told (object ms) (λ q listed. refl) here.0 here.3

-- an error of its members is one of the record
pub refused_with : {T : Type 0} (r : Result T OciSpecError) (rs : Rows) (ms : Members) (d : Data) → Some ms ≡ as_object d
    → IfErr r (λ e. IsSchema e → (c : Data) → Agree (names rs) ms c → AreRefused rs c) → IfErr r (λ e. IsSchema e → IsRefused (rows rs) d)
refused_with (Ok x) rs ms d there told = tt
refused_with (Err e) rs ms d there told = λ schema. record_refused rs ms d there (told schema)

-- what is read of its members is read of the record
pub means_with : {T : Type 0} (f : T → Slots) (r : Result T OciSpecError) (rs : Rows) (ms : Members) (d : Data) → Some ms ≡ as_object d
    → IfOk r (λ x. (c : Data) → Agree (names rs) ms c → MeansRows rs c (f x)) → IfOk r (λ x. Means (rows rs) d (plain.document (f x)))
means_with f (Ok x) rs ms d there told = record_means rs ms d (f x) there told
means_with f (Err e) rs ms d there told = tt

-- a value that is no object
pub no_object : (rs : Rows) (d : Data) → None ≡ as_object d → IsRefused (rows rs) d
unfolding IsRefused
no_object rs d none p m = true≢false (sym m.1 ∙ ap is_some (sym none))
