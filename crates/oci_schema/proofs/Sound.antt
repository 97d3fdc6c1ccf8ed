-- Each violation that is listed is one: a way leads to what is wrong.
use Rattle.std.proofs.Common.{◌≡◌, inl, inr, ℕ, zero, suc, ◌+◌, ◌<◌, List, [], ◌∷◌, Bool, true, false, cond, Option, Some, None, is_some, refl, sym, ap, ◌∙◌, subst, arith}
use Rattle.std.specs.List.{Contains}
use Rattle.std.proofs.lemmas.List.Elements.{Contains-append_cases}
use Rattle.serde_json.specs.Data.{Data, Items, no_items, item, Members, no_members, member}
use Rattle.serde_json.specs.Find.{as_array, as_object, as_null, get, get_item}
use Rattle.oci_model.specs.Means.{is_object, get_second}
use Rattle.oci_model.specs.Shape as shape
use Rattle.oci_model.specs.Shape.{Presence, required, defaulted, optional, nullable, unless_empty, Shape, text, truth, whole, named, open_name, digest_text, cpu_text, cap_set, list, key_set, detail, free_map, rows, Rows, no_rows, row}
use Rattle.oci_schema.specs.Allows.{allows}
use Rattle.oci_schema.specs.Leads.{to_member, to_item, Have}
use Rattle.oci_schema.specs.Places.{under_name, under_index}
use Rattle.oci_schema.specs.EachPart.{of_each, of_each_member}
use Rattle.oci_schema.specs.Violations.{Report, kind_of, is_of_kind, an_object, a_value, a_member, no_alias, unless, items_violations, members_violations, member_violations, either_violations, row_violations, violations, rows_violations}
use Rattle.oci_schema.specs.Wants.{HasRow, Lists, StandsUnder, is_as_absent, StepsTo, IsWrong, IsViolationAt}

-- ---- lists

none_of : (x : Report) → Contains {X = Report} [] x → ⊥
none_of x has = let less : has.0 < 0 = has.1 in absurd (omega arith)

pub only_one : (y x : Report) → Contains (y ∷ []) x → x ≡ y
only_one y x (zero, less, is) = sym is
only_one y x (suc k, less, is) = absurd (omega arith)

-- ---- what is listed of a part is a violation

abbrev Listing : Type 0
Listing = List ℕ → Data → List Report

abbrev Sound : Shape → Listing → Type 0
Sound s f = (at : List ℕ) (d : Data) (x : Report) → Contains (f at d) x → IsViolationAt at s d x

wrong_here : (at : List ℕ) (s : Shape) (d : Data) (x : Report) → IsWrong s d at x.0 x.1 → IsViolationAt at s d x
wrong_here at s d x wrong = ([], s, d, (refl, refl), wrong)

wrong_kind : (at : List ℕ) (s : Shape) (d : Data) (x : Report) → is_of_kind (kind_of s) d ≡ false → Contains ((at, a_value (kind_of s)) ∷ []) x → IsViolationAt at s d x
wrong_kind at s d x bad has =
    let same : x ≡ (at, a_value (kind_of s)) = only_one (at, a_value (kind_of s)) x has in
    subst (IsViolationAt at s d) (sym same) (wrong_here at s d (at, a_value (kind_of s)) (refl, refl, bad))

to_a_member : (at key : List ℕ) (s t : Shape) (d c : Data) (x : Report) → StepsTo s d (to_member key) t c → IsViolationAt (under_name at key) t c x → IsViolationAt at s d x
to_a_member at key s t d c x steps it = let (way, u, part, wants, wrong) = it in (to_member key ∷ way, u, part, (t, c, steps, wants), wrong)

to_an_item : (at : List ℕ) (i : ℕ) (s t : Shape) (d c : Data) (x : Report) → StepsTo s d (to_item i) t c → IsViolationAt (under_index at i) t c x → IsViolationAt at s d x
to_an_item at i s t d c x steps it = let (way, u, part, wants, wrong) = it in (to_item i ∷ way, u, part, (t, c, steps, wants), wrong)

unless_sound : (at : List ℕ) (s : Shape) (d : Data) (x : Report) (b : Bool) → is_of_kind (kind_of s) d ≡ b → Contains (unless b at s) x → IsViolationAt at s d x
unless_sound at s d x true e has = absurd (none_of x has)
unless_sound at s d x false e has = wrong_kind at s d x e has

-- ---- items and members of maps

each_sound : (s : Shape) (f : Listing) → Sound s f → (at : List ℕ) (d : Data) (all : Items) → as_array d ≡ Some all → (x : Report) (i : ℕ) (ds : Items)
    → ((j : ℕ) (c : Data) → get_item j ds ≡ Some c → get_item (i + j) all ≡ Some c) → Contains (of_each f at i ds) x → IsViolationAt at (list s) d x
each_sound s f sound at d all is x i no_items within has = absurd (none_of x has)
each_sound s f sound at d all is x i (item c ds) within has =
    let same : i + 0 ≡ i = omega arith in
    let first : get_item i all ≡ Some c = ap (λ n. get_item n all) (sym same) ∙ within 0 c refl in
    elim (Contains-append_cases (f (under_index at i) c) (of_each f at (i + 1) ds) x has) as (λ _. IsViolationAt at (list s) d x) [
      | inl h ↦ to_an_item at i (list s) s d c x (refl, (all, is, first)) (sound (under_index at i) c x h)
      | inr h ↦ each_sound s f sound at d all is x (i + 1) ds (λ j b e. shifted i j all b (within (suc j) b e)) h
    ]
  where
    shifted : (i j : ℕ) (all : Items) (b : Data) → get_item (i + suc j) all ≡ Some b → get_item ((i + 1) + j) all ≡ Some b
    shifted i j all b e = let moved : (i + 1) + j ≡ i + suc j = omega arith in ap (λ n. get_item n all) moved ∙ e

items_sound : (s : Shape) (f : Listing) → Sound s f → (at : List ℕ) (d : Data) (x : Report) (o : Option Items) → as_array d ≡ o → Contains (items_violations (list s) f at o) x → IsViolationAt at (list s) d x
items_sound s f sound at d x None is has = wrong_kind at (list s) d x (ap is_some is) has
items_sound s f sound at d x (Some ds) is has = each_sound s f sound at d ds is x 0 ds (λ j c e. from_first j c e) has
  where
    from_first : (j : ℕ) (c : Data) → get_item j ds ≡ Some c → get_item (0 + j) ds ≡ Some c
    from_first j c e = let same : 0 + j ≡ j = omega arith in ap (λ n. get_item n ds) same ∙ e

each_member_sound : (s : Shape) (f : Listing) → Sound s f → (at : List ℕ) (d : Data) (all : Members) → as_object d ≡ Some all → (x : Report) (ms : Members)
    → ((name : List ℕ) (c : Data) → Have ms name c → Have all name c) → Contains (of_each_member f at ms) x → IsViolationAt at (shape.map s) d x
each_member_sound s f sound at d all is x no_members within has = absurd (none_of x has)
each_member_sound s f sound at d all is x (member k c ms) within has =
    elim (Contains-append_cases (f (under_name at k) c) (of_each_member f at ms) x has) as (λ _. IsViolationAt at (shape.map s) d x) [
      | inl h ↦ to_a_member at k (shape.map s) s d c x (inl (refl, (all, is, within k c (inl (refl, refl))))) (sound (under_name at k) c x h)
      | inr h ↦ each_member_sound s f sound at d all is x ms (λ name b e. within name b (inr e)) h
    ]

members_sound : (s : Shape) (f : Listing) → Sound s f → (at : List ℕ) (d : Data) (x : Report) (o : Option Members) → as_object d ≡ o → Contains (members_violations (shape.map s) f at o) x → IsViolationAt at (shape.map s) d x
members_sound s f sound at d x None is has = wrong_kind at (shape.map s) d x (ap is_some is) has
members_sound s f sound at d x (Some ms) is has = each_member_sound s f sound at d ms is x ms (λ name c h. h) has

-- ---- members of records

-- a value of a member that is found, unless it is null and counts as absent
null_sound : (A : Type 0) (f : Listing) (at : List ℕ) (c : Data) (x : Report) (b : Bool) → is_some (as_null c) ≡ b → (is_some (as_null c) ≡ false → Contains (f at c) x → A)
    → Contains (cond b [] (f at c)) x → A
null_sound A f at c x true e then has = absurd (none_of x has)
null_sound A f at c x false e then has = then e has

-- `A` where something is found that breaks its shape, and where nothing is found that is required
member_sound : (A : Type 0) (presence : Presence) (s : Shape) (f : Listing) (at : List ℕ) (found : Option Data) (x : Report)
    → ((c : Data) → found ≡ Some c → is_as_absent presence c ≡ false → Contains (f at c) x → A)
    → (found ≡ None → presence ≡ required → x ≡ (at, a_member (kind_of s)) → A)
    → Contains (member_violations presence s f at found) x → A
member_sound A required s f at None x some none has = none refl refl (only_one (at, a_member (kind_of s)) x has)
member_sound A required s f at (Some c) x some none has = some c refl refl has
member_sound A (defaulted p) s f at None x some none has = absurd (none_of x has)
member_sound A (defaulted p) s f at (Some c) x some none has = some c refl refl has
member_sound A optional s f at None x some none has = absurd (none_of x has)
member_sound A optional s f at (Some c) x some none has = null_sound A f at c x (is_some (as_null c)) refl (some c refl) has
member_sound A nullable s f at None x some none has = absurd (none_of x has)
member_sound A nullable s f at (Some c) x some none has = null_sound A f at c x (is_some (as_null c)) refl (some c refl) has
member_sound A unless_empty s f at None x some none has = absurd (none_of x has)
member_sound A unless_empty s f at (Some c) x some none has = null_sound A f at c x (is_some (as_null c)) refl (some c refl) has

-- of a record that lists the member
module _ (whole_shape : Shape) (at : List ℕ) (d : Data) (is : is_object d ≡ true) (name : List ℕ) (alias : Option (List ℕ)) (presence : Presence) (s : Shape) (lists : Lists whole_shape name alias presence s)
    (f : Listing) (sound : Sound s f) (x : Report) where
  stands : (key : List ℕ) (c : Data) → StandsUnder name alias d key c → is_as_absent presence c ≡ false → Contains (f (under_name at key) c) x → IsViolationAt at whole_shape d x
  stands key c under counts has = to_a_member at key whole_shape s d c x (inr (name, alias, presence, lists, under, counts)) (sound (under_name at key) c x has)

  missing : presence ≡ required → get name d ≡ None → get_second alias d ≡ None → x ≡ (under_name at name, a_member (kind_of s)) → IsViolationAt at whole_shape d x
  missing asked absent none same =
      subst (IsViolationAt at whole_shape d) (sym same) (wrong_here at whole_shape d (under_name at name, a_member (kind_of s))
      (name, alias, s, subst (λ p. Lists whole_shape name alias p s) asked lists, refl, refl, is, absent, none))

  -- nothing stands under the alias
  by_name : get_second alias d ≡ None → Contains (member_violations presence s f (under_name at name) (get name d)) x → IsViolationAt at whole_shape d x
  by_name none has =
      member_sound (IsViolationAt at whole_shape d x) presence s f (under_name at name) (get name d) x (λ c e counts h. stands name c (e, inl (refl, none)) counts h)
      (λ absent asked same. missing asked absent none same) has

  -- nothing stands under the name
  by_alias : (other : List ℕ) (c : Data) → alias ≡ Some other → get other d ≡ Some c → get name d ≡ None → Contains (member_violations presence s f (under_name at other) (Some c)) x
      → IsViolationAt at whole_shape d x
  by_alias other c same there absent has =
      member_sound (IsViolationAt at whole_shape d x) presence s f (under_name at other) (Some c) x (λ b e counts h. stands other b (there ∙ e, inr (same, absent)) counts h)
      (λ e asked same. cc) has

  both : (other : List ℕ) → alias ≡ Some other → is_some (get name d) ≡ true → is_some (get other d) ≡ true → Contains ((under_name at name, no_alias other) ∷ []) x → IsViolationAt at whole_shape d x
  both other same this that has =
      let e : x ≡ (under_name at name, no_alias other) = only_one (under_name at name, no_alias other) x has in
      subst (IsViolationAt at whole_shape d) (sym e) (wrong_here at whole_shape d (under_name at name, no_alias other)
      (name, presence, s, subst (λ a. Lists whole_shape name a presence s) same lists, refl, this, that))

  either : (other : List ℕ) (found beside : Option Data) → alias ≡ Some other → get name d ≡ found → get other d ≡ beside → get_second alias d ≡ beside
      → Contains (either_violations presence s f at name other found beside) x → IsViolationAt at whole_shape d x
  either other found None same e h k has = by_name k (subst (λ o. Contains (member_violations presence s f (under_name at name) o) x) (sym e) has)
  either other None (Some c) same e h k has = by_alias other c same h e has
  either other (Some b) (Some c) same e h k has = both other same (ap is_some e) (ap is_some h) has

row_sound : (whole_shape : Shape) (at : List ℕ) (d : Data) → is_object d ≡ true → (name : List ℕ) (alias : Option (List ℕ)) (presence : Presence) (s : Shape) → Lists whole_shape name alias presence s
    → (f : Listing) → Sound s f → (x : Report) → Contains (row_violations presence s f at name alias d) x → IsViolationAt at whole_shape d x
row_sound whole_shape at d is name None presence s lists f sound x has = by_name whole_shape at d is name None presence s lists f sound x refl has
row_sound whole_shape at d is name (Some other) presence s lists f sound x has =
    either whole_shape at d is name (Some other) presence s lists f sound x other (get name d) (get other d) refl refl refl refl has

record_sound : (at : List ℕ) (d : Data) (rs : Rows) (x : Report) (b : Bool) → is_object d ≡ b → (is_object d ≡ true → Contains (rows_violations rs at d) x → IsViolationAt at (rows rs) d x)
    → Contains (cond b (rows_violations rs at d) ((at, a_value an_object) ∷ [])) x → IsViolationAt at (rows rs) d x
record_sound at d rs x true e sound has = sound e has
record_sound at d rs x false e sound has = wrong_kind at (rows rs) d x e has

mutual
  shape_sound : (s : Shape) (at : List ℕ) (d : Data) (x : Report) → Contains (violations s at d) x → IsViolationAt at s d x
  shape_sound text at d x has = unless_sound at text d x (allows text d) refl has
  shape_sound truth at d x has = unless_sound at truth d x (allows truth d) refl has
  shape_sound (whole low high) at d x has = unless_sound at (whole low high) d x (allows (whole low high) d) refl has
  shape_sound (named table) at d x has = unless_sound at (named table) d x (allows (named table) d) refl has
  shape_sound (open_name table) at d x has = unless_sound at (open_name table) d x (allows (open_name table) d) refl has
  shape_sound digest_text at d x has = unless_sound at digest_text d x (allows digest_text d) refl has
  shape_sound cpu_text at d x has = unless_sound at cpu_text d x (allows cpu_text d) refl has
  shape_sound (cap_set table) at d x has = unless_sound at (cap_set table) d x (allows (cap_set table) d) refl has
  shape_sound (list s) at d x has = items_sound s (violations s) (λ p c y h. shape_sound s p c y h) at d x (as_array d) refl has
  shape_sound (shape.map s) at d x has = members_sound s (violations s) (λ p c y h. shape_sound s p c y h) at d x (as_object d) refl has
  shape_sound key_set at d x has = unless_sound at key_set d x (allows key_set d) refl has
  shape_sound detail at d x has = unless_sound at detail d x (allows detail d) refl has
  shape_sound free_map at d x has = unless_sound at free_map d x (allows free_map d) refl has
  shape_sound (rows rs) at d x has =
      record_sound at d rs x (is_object d) refl (λ is h. rows_sound rs (rows rs) at d x is (λ name alias presence t row. (rs, refl, row)) h) has

  -- of a record with these members among others
  rows_sound : (rs : Rows) (s : Shape) (at : List ℕ) (d : Data) (x : Report) → is_object d ≡ true
      → ((name : List ℕ) (alias : Option (List ℕ)) (presence : Presence) (t : Shape) → HasRow rs name alias presence t → Lists s name alias presence t)
      → Contains (rows_violations rs at d) x → IsViolationAt at s d x
  rows_sound no_rows s at d x is lists has = absurd (none_of x has)
  rows_sound (row name alias presence t rs) s at d x is lists has =
      elim (Contains-append_cases (row_violations presence t (violations t) at name alias d) (rows_violations rs at d) x has) as (λ _. IsViolationAt at s d x) [
        | inl h ↦ row_sound s at d is name alias presence t (lists name alias presence t (inl (refl, refl, refl, refl))) (violations t) (λ p c y k. shape_sound t p c y k) x h
        | inr h ↦ rows_sound rs s at d x is (λ n a p u r. lists n a p u (inr r)) h
      ]

-- each that is listed is one
pub listed_is : (s : Shape) (at : List ℕ) (d : Data) (x : Report) → Contains (violations s at d) x → IsViolationAt at s d x
listed_is = shape_sound
