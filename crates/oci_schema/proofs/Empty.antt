-- There are no violations exactly where the value is allowed.
use Rattle.std.proofs.Common.{◌≡◌, ℕ, ◌+◌, List, [], ◌∷◌, ◌++◌, Bool, true, false, ◌||◌, cond, Option, Some, None, is_some, refl, sym, true≢false}
use Rattle.std.specs.Prelude.{◌↔◌}
use Rattle.serde_json.specs.Data.{Data, Items, no_items, item, Members, no_members, member}
use Rattle.serde_json.specs.Find.{as_array, as_object, as_null, get}
use Rattle.oci_model.specs.Plain.{Plain}
use Rattle.oci_model.specs.Means.{Means, is_object, get_second}
use Rattle.oci_model.specs.Shape as shape
use Rattle.oci_model.specs.Shape.{Presence, required, defaulted, optional, nullable, unless_empty, Shape, text, truth, whole, named, open_name, digest_text, cpu_text, cap_set, list, key_set, detail, free_map, rows, Rows, no_rows, row}
use Rattle.oci_schema.specs.Allows.{allows, rows_allow, each_allowed, items_allowed, each_member_allowed, members_allowed, member_allowed, either_allowed}
use Rattle.oci_schema.specs.Places.{under_name, under_index}
use Rattle.oci_schema.specs.EachPart.{of_each, of_each_member}
use Rattle.oci_schema.specs.Violations.{Report, unless, items_violations, members_violations, member_violations, either_violations, row_violations, violations, rows_violations}
use Rattle.oci_schema.proofs.Decides.{both, first_of, later_of, decides}

abbrev Listing : Type 0
Listing = List ℕ → Data → List Report

-- what is allowed has no violations, and what has none is allowed
abbrev Sound : Listing → (Data → Bool) → Type 0
Sound f g = (at : List ℕ) (d : Data) → g d ≡ true → f at d ≡ []

abbrev Full : Listing → (Data → Bool) → Type 0
Full f g = (at : List ℕ) (d : Data) → f at d ≡ [] → g d ≡ true

no_more : (xs ys : List Report) → xs ≡ [] → ys ≡ [] → xs ++ ys ≡ []
no_more xs ys e h = rw (e, h) refl

none_first : (xs ys : List Report) → xs ++ ys ≡ [] → xs ≡ []
none_first [] ys e = refl
none_first (x ∷ xs) ys e = cc

none_later : (xs ys : List Report) → xs ++ ys ≡ [] → ys ≡ []
none_later [] ys e = e
none_later (x ∷ xs) ys e = cc

not_empty : {P : Type 0} (x : Report) (xs : List Report) → x ∷ xs ≡ [] → P
not_empty x xs e = cc

unless_none : (b : Bool) (at : List ℕ) (s : Shape) → b ≡ true → unless b at s ≡ []
unless_none b at s e = rw e refl

unless_full : (b : Bool) (at : List ℕ) (s : Shape) → unless b at s ≡ [] → b ≡ true
unless_full true at s e = refl
unless_full false at s e = not_empty _ _ e

-- ---- each part

each_none : (f : Listing) (g : Data → Bool) → Sound f g → (at : List ℕ) (i : ℕ) (ds : Items) → each_allowed g ds ≡ true → of_each f at i ds ≡ []
each_none f g sound at i no_items e = refl
each_none f g sound at i (item d ds) e = no_more _ _ (sound (under_index at i) d (first_of (g d) _ e)) (each_none f g sound at (i + 1) ds (later_of (g d) _ e))

each_full : (f : Listing) (g : Data → Bool) → Full f g → (at : List ℕ) (i : ℕ) (ds : Items) → of_each f at i ds ≡ [] → each_allowed g ds ≡ true
each_full f g full at i no_items e = refl
each_full f g full at i (item d ds) e =
    both (g d) _ (full (under_index at i) d (none_first (f (under_index at i) d) _ e)) (each_full f g full at (i + 1) ds (none_later (f (under_index at i) d) _ e))

items_none : (s : Shape) (f : Listing) (g : Data → Bool) → Sound f g → (at : List ℕ) (o : Option Items) → items_allowed g o ≡ true → items_violations s f at o ≡ []
items_none s f g sound at None e = absurd (true≢false (sym e))
items_none s f g sound at (Some ds) e = each_none f g sound at 0 ds e

items_full : (s : Shape) (f : Listing) (g : Data → Bool) → Full f g → (at : List ℕ) (o : Option Items) → items_violations s f at o ≡ [] → items_allowed g o ≡ true
items_full s f g full at None e = not_empty _ _ e
items_full s f g full at (Some ds) e = each_full f g full at 0 ds e

each_member_none : (f : Listing) (g : Data → Bool) → Sound f g → (at : List ℕ) (ms : Members) → each_member_allowed g ms ≡ true → of_each_member f at ms ≡ []
each_member_none f g sound at no_members e = refl
each_member_none f g sound at (member k d ms) e = no_more _ _ (sound (under_name at k) d (first_of (g d) _ e)) (each_member_none f g sound at ms (later_of (g d) _ e))

each_member_full : (f : Listing) (g : Data → Bool) → Full f g → (at : List ℕ) (ms : Members) → of_each_member f at ms ≡ [] → each_member_allowed g ms ≡ true
each_member_full f g full at no_members e = refl
each_member_full f g full at (member k d ms) e =
    both (g d) _ (full (under_name at k) d (none_first (f (under_name at k) d) _ e)) (each_member_full f g full at ms (none_later (f (under_name at k) d) _ e))

members_none : (s : Shape) (f : Listing) (g : Data → Bool) → Sound f g → (at : List ℕ) (o : Option Members) → members_allowed g o ≡ true → members_violations s f at o ≡ []
members_none s f g sound at None e = absurd (true≢false (sym e))
members_none s f g sound at (Some ms) e = each_member_none f g sound at ms e

members_full : (s : Shape) (f : Listing) (g : Data → Bool) → Full f g → (at : List ℕ) (o : Option Members) → members_violations s f at o ≡ [] → members_allowed g o ≡ true
members_full s f g full at None e = not_empty _ _ e
members_full s f g full at (Some ms) e = each_member_full f g full at ms e

-- ---- members of records

null_none : (b c : Bool) (xs : List Report) → (c ≡ true → xs ≡ []) → (b || c) ≡ true → cond b [] xs ≡ []
null_none true c xs sound e = refl
null_none false c xs sound e = sound e

null_full : (b c : Bool) (xs : List Report) → (xs ≡ [] → c ≡ true) → cond b [] xs ≡ [] → (b || c) ≡ true
null_full true c xs full e = refl
null_full false c xs full e = full e

member_none : (presence : Presence) (s : Shape) (f : Listing) (g : Data → Bool) → Sound f g → (at : List ℕ) (found : Option Data) → member_allowed presence g found ≡ true → member_violations presence s f at found ≡ []
member_none required s f g sound at None e = absurd (true≢false (sym e))
member_none required s f g sound at (Some d) e = sound at d e
member_none (defaulted p) s f g sound at None e = refl
member_none (defaulted p) s f g sound at (Some d) e = sound at d e
member_none optional s f g sound at None e = refl
member_none optional s f g sound at (Some d) e = null_none (is_some (as_null d)) (g d) (f at d) (sound at d) e
member_none nullable s f g sound at None e = refl
member_none nullable s f g sound at (Some d) e = null_none (is_some (as_null d)) (g d) (f at d) (sound at d) e
member_none unless_empty s f g sound at None e = refl
member_none unless_empty s f g sound at (Some d) e = null_none (is_some (as_null d)) (g d) (f at d) (sound at d) e

member_full : (presence : Presence) (s : Shape) (f : Listing) (g : Data → Bool) → Full f g → (at : List ℕ) (found : Option Data) → member_violations presence s f at found ≡ [] → member_allowed presence g found ≡ true
member_full required s f g full at None e = not_empty _ _ e
member_full required s f g full at (Some d) e = full at d e
member_full (defaulted p) s f g full at None e = refl
member_full (defaulted p) s f g full at (Some d) e = full at d e
member_full optional s f g full at None e = refl
member_full optional s f g full at (Some d) e = null_full (is_some (as_null d)) (g d) (f at d) (full at d) e
member_full nullable s f g full at None e = refl
member_full nullable s f g full at (Some d) e = null_full (is_some (as_null d)) (g d) (f at d) (full at d) e
member_full unless_empty s f g full at None e = refl
member_full unless_empty s f g full at (Some d) e = null_full (is_some (as_null d)) (g d) (f at d) (full at d) e

either_none : (presence : Presence) (s : Shape) (f : Listing) (g : Data → Bool) → Sound f g → (at name alias : List ℕ) (found other : Option Data) → either_allowed presence g found other ≡ true
    → either_violations presence s f at name alias found other ≡ []
either_none presence s f g sound at name alias found None e = member_none presence s f g sound (under_name at name) found e
either_none presence s f g sound at name alias None (Some d) e = member_none presence s f g sound (under_name at alias) (Some d) e
either_none presence s f g sound at name alias (Some c) (Some d) e = absurd (true≢false (sym e))

either_full : (presence : Presence) (s : Shape) (f : Listing) (g : Data → Bool) → Full f g → (at name alias : List ℕ) (found other : Option Data) → either_violations presence s f at name alias found other ≡ []
    → either_allowed presence g found other ≡ true
either_full presence s f g full at name alias found None e = member_full presence s f g full (under_name at name) found e
either_full presence s f g full at name alias None (Some d) e = member_full presence s f g full (under_name at alias) (Some d) e
either_full presence s f g full at name alias (Some c) (Some d) e = not_empty _ _ e

row_none : (presence : Presence) (s : Shape) (f : Listing) (g : Data → Bool) → Sound f g → (at name : List ℕ) (alias : Option (List ℕ)) (d : Data) → either_allowed presence g (get name d) (get_second alias d) ≡ true
    → row_violations presence s f at name alias d ≡ []
row_none presence s f g sound at name None d e = member_none presence s f g sound (under_name at name) (get name d) e
row_none presence s f g sound at name (Some alias) d e = either_none presence s f g sound at name alias (get name d) (get alias d) e

row_full : (presence : Presence) (s : Shape) (f : Listing) (g : Data → Bool) → Full f g → (at name : List ℕ) (alias : Option (List ℕ)) (d : Data) → row_violations presence s f at name alias d ≡ []
    → either_allowed presence g (get name d) (get_second alias d) ≡ true
row_full presence s f g full at name None d e = member_full presence s f g full (under_name at name) (get name d) e
row_full presence s f g full at name (Some alias) d e = either_full presence s f g full at name alias (get name d) (get alias d) e

object_none : (b : Bool) (x : Report) (xs : List Report) → b ≡ true → xs ≡ [] → cond b xs (x ∷ []) ≡ []
object_none b x xs e h = rw (e, h) refl

object_full : (b : Bool) (x : Report) (xs : List Report) → cond b xs (x ∷ []) ≡ [] → (b ≡ true) × (xs ≡ [])
object_full true x xs e = (refl, e)
object_full false x xs e = not_empty _ _ e

mutual
  pub none_where_allowed : (s : Shape) (at : List ℕ) (d : Data) → allows s d ≡ true → violations s at d ≡ []
  none_where_allowed text at d e = unless_none (allows text d) at text e
  none_where_allowed truth at d e = unless_none (allows truth d) at truth e
  none_where_allowed (whole low high) at d e = unless_none (allows (whole low high) d) at (whole low high) e
  none_where_allowed (named table) at d e = unless_none (allows (named table) d) at (named table) e
  none_where_allowed (open_name table) at d e = unless_none (allows (open_name table) d) at (open_name table) e
  none_where_allowed digest_text at d e = unless_none (allows digest_text d) at digest_text e
  none_where_allowed cpu_text at d e = unless_none (allows cpu_text d) at cpu_text e
  none_where_allowed (cap_set table) at d e = unless_none (allows (cap_set table) d) at (cap_set table) e
  none_where_allowed (list s) at d e = items_none (list s) (violations s) (allows s) (λ p x. none_where_allowed s p x) at (as_array d) e
  none_where_allowed (shape.map s) at d e = members_none (shape.map s) (violations s) (allows s) (λ p x. none_where_allowed s p x) at (as_object d) e
  none_where_allowed key_set at d e = unless_none (allows key_set d) at key_set e
  none_where_allowed detail at d e = unless_none (allows detail d) at detail e
  none_where_allowed free_map at d e = unless_none (allows free_map d) at free_map e
  none_where_allowed (rows rs) at d e = object_none (is_object d) _ _ (first_of (is_object d) _ e) (no_rows_where_allowed rs at d (later_of (is_object d) _ e))

  no_rows_where_allowed : (rs : Rows) (at : List ℕ) (d : Data) → rows_allow rs d ≡ true → rows_violations rs at d ≡ []
  no_rows_where_allowed no_rows at d e = refl
  no_rows_where_allowed (row name alias presence s rs) at d e =
      let b = either_allowed presence (allows s) (get name d) (get_second alias d) in
      no_more _ _ (row_none presence s (violations s) (allows s) (λ p x. none_where_allowed s p x) at name alias d (first_of b _ e)) (no_rows_where_allowed rs at d (later_of b _ e))

mutual
  pub allowed_where_none : (s : Shape) (at : List ℕ) (d : Data) → violations s at d ≡ [] → allows s d ≡ true
  allowed_where_none text at d e = unless_full (allows text d) at text e
  allowed_where_none truth at d e = unless_full (allows truth d) at truth e
  allowed_where_none (whole low high) at d e = unless_full (allows (whole low high) d) at (whole low high) e
  allowed_where_none (named table) at d e = unless_full (allows (named table) d) at (named table) e
  allowed_where_none (open_name table) at d e = unless_full (allows (open_name table) d) at (open_name table) e
  allowed_where_none digest_text at d e = unless_full (allows digest_text d) at digest_text e
  allowed_where_none cpu_text at d e = unless_full (allows cpu_text d) at cpu_text e
  allowed_where_none (cap_set table) at d e = unless_full (allows (cap_set table) d) at (cap_set table) e
  allowed_where_none (list s) at d e = items_full (list s) (violations s) (allows s) (λ p x. allowed_where_none s p x) at (as_array d) e
  allowed_where_none (shape.map s) at d e = members_full (shape.map s) (violations s) (allows s) (λ p x. allowed_where_none s p x) at (as_object d) e
  allowed_where_none key_set at d e = unless_full (allows key_set d) at key_set e
  allowed_where_none detail at d e = unless_full (allows detail d) at detail e
  allowed_where_none free_map at d e = unless_full (allows free_map d) at free_map e
  allowed_where_none (rows rs) at d e =
      let h = object_full (is_object d) _ _ e in
      both (is_object d) _ h.0 (allowed_where_no_rows rs at d h.1)

  allowed_where_no_rows : (rs : Rows) (at : List ℕ) (d : Data) → rows_violations rs at d ≡ [] → rows_allow rs d ≡ true
  allowed_where_no_rows no_rows at d e = refl
  allowed_where_no_rows (row name alias presence s rs) at d e =
      let x = row_violations presence s (violations s) at name alias d in
      both _ _ (row_full presence s (violations s) (allows s) (λ p y. allowed_where_none s p y) at name alias d (none_first x _ e)) (allowed_where_no_rows rs at d (none_later x _ e))

pub none_is_meant : (s : Shape) (at : List ℕ) (d : Data) → (violations s at d ≡ []) ↔ ((p : Plain) × Means s d p)
none_is_meant s at d =
    let reported = decides s d (allows s d) refl in
    ((λ e. reported.0 (allowed_where_none s at d e)), (λ m. none_where_allowed s at d (reported.1 m)))
