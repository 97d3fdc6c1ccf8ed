-- Each violation is listed.
use Rattle.std.proofs.Common.{◌≡◌, inl, inr, ℕ, zero, suc, ◌+◌, List, [], ◌∷◌, Bool, true, false, cond, Option, Some, None, is_some, refl, sym, ap, ◌∙◌, subst, arith}
use Rattle.std.specs.List.{Contains}
use Rattle.std.proofs.lemmas.List.Elements.{Contains-append_left, Contains-append_right}
use Rattle.serde_json.specs.Data.{Data, null, boolean, number, string, array, object, Items, no_items, item, Members, no_members, member}
use Rattle.serde_json.specs.Find.{as_array, as_object, as_null, get, get_item}
use Rattle.oci_model.specs.Means.{is_object, get_second}
use Rattle.oci_model.specs.Shape as shape
use Rattle.oci_model.specs.Shape.{Presence, required, defaulted, optional, nullable, unless_empty, Shape, text, truth, whole, named, open_name, digest_text, cpu_text, cap_set, list, key_set, detail, free_map, rows, Rows, no_rows, row}
use Rattle.oci_schema.specs.Allows.{allows}
use Rattle.oci_schema.specs.Leads.{Step, to_member, to_item, spelled, Have}
use Rattle.oci_schema.specs.Places.{under_name, under_index}
use Rattle.oci_schema.specs.EachPart.{of_each, of_each_member}
use Rattle.oci_schema.specs.Violations.{Expectation, Report, kind_of, is_of_kind, an_object, a_value, a_member, no_alias, unless, items_violations, members_violations, member_violations, either_violations, row_violations, violations, rows_violations}
use Rattle.oci_schema.specs.Wants.{HasRow, Lists, StandsUnder, is_as_absent, StepsTo, Wants, IsWrong, IsViolationAt}

one : (x : Report) → Contains (x ∷ []) x
one x = (0, omega arith, refl)

abbrev Listing : Type 0
Listing = List ℕ → Data → List Report

-- ---- a value that is not of its kind

unless_has : (at : List ℕ) (s : Shape) (b : Bool) → b ≡ false → Contains (unless b at s) (at, a_value (kind_of s))
unless_has at s true e = cc
unless_has at s false e = one (at, a_value (kind_of s))

items_has : (s : Shape) (f : Listing) (at : List ℕ) (o : Option Items) → is_some o ≡ false → Contains (items_violations s f at o) (at, a_value (kind_of s))
items_has s f at None e = one (at, a_value (kind_of s))
items_has s f at (Some ds) e = cc

members_has : (s : Shape) (f : Listing) (at : List ℕ) (o : Option Members) → is_some o ≡ false → Contains (members_violations s f at o) (at, a_value (kind_of s))
members_has s f at None e = one (at, a_value (kind_of s))
members_has s f at (Some ms) e = cc

record_has : (at : List ℕ) (xs : List Report) (b : Bool) → b ≡ false → Contains (cond b xs ((at, a_value an_object) ∷ [])) (at, a_value an_object)
record_has at xs true e = cc
record_has at xs false e = one (at, a_value an_object)

value_has : (s : Shape) (at : List ℕ) (d : Data) → is_of_kind (kind_of s) d ≡ false → Contains (violations s at d) (at, a_value (kind_of s))
value_has text at d e = unless_has at text (allows text d) e
value_has truth at d e = unless_has at truth (allows truth d) e
value_has (whole low high) at d e = unless_has at (whole low high) (allows (whole low high) d) e
value_has (named table) at d e = unless_has at (named table) (allows (named table) d) e
value_has (open_name table) at d e = unless_has at (open_name table) (allows (open_name table) d) e
value_has digest_text at d e = unless_has at digest_text (allows digest_text d) e
value_has cpu_text at d e = unless_has at cpu_text (allows cpu_text d) e
value_has (cap_set table) at d e = unless_has at (cap_set table) (allows (cap_set table) d) e
value_has (list s) at d e = items_has (list s) (violations s) at (as_array d) e
value_has (shape.map s) at d e = members_has (shape.map s) (violations s) at (as_object d) e
value_has key_set at d e = unless_has at key_set (allows key_set d) e
value_has detail at d e = unless_has at detail (allows detail d) e
value_has free_map at d e = unless_has at free_map (allows free_map d) e
value_has (rows rs) at d e = record_has at (rows_violations rs at d) (is_object d) e

-- ---- members of records

-- what is listed of a member is listed of the record
row_has : (at : List ℕ) (d : Data) (x : Report) (name : List ℕ) (alias : Option (List ℕ)) (presence : Presence) (s : Shape) (rs : Rows) → HasRow rs name alias presence s
    → Contains (row_violations presence s (violations s) at name alias d) x → Contains (rows_violations rs at d) x
row_has at d x name alias presence s no_rows listed has = absurd listed
row_has at d x name alias presence s (row n a p t rs) (inl same) has =
    let moved : row_violations presence s (violations s) at name alias d ≡ row_violations p t (violations t) at n a d =
    (let (e, f, g, h) = same in
    ap (λ k. row_violations presence s (violations s) at k alias d) e ∙ ap (λ k. row_violations presence s (violations s) at n k d) f
    ∙ ap (λ k. row_violations k s (violations s) at n a d) g ∙ ap (λ k. row_violations p k (violations k) at n a d) h) in
    Contains-append_left (row_violations p t (violations t) at n a d) (rows_violations rs at d) x (subst (λ l. Contains l x) moved has)
row_has at d x name alias presence s (row n a p t rs) (inr listed) has =
    Contains-append_right (row_violations p t (violations t) at n a d) (rows_violations rs at d) x (row_has at d x name alias presence s rs listed has)

member_has : (at : List ℕ) (s : Shape) (d : Data) (x : Report) (name : List ℕ) (alias : Option (List ℕ)) (presence : Presence) (t : Shape) → Lists s name alias presence t → is_object d ≡ true
    → Contains (row_violations presence t (violations t) at name alias d) x → Contains (violations s at d) x
member_has at s d x name alias presence t lists is has =
    let (rs, same, listed) = lists in
    subst (λ u. Contains (violations u at d) x) (sym same)
    (subst (λ b. Contains (cond b (rows_violations rs at d) ((at, a_value an_object) ∷ [])) x) (sym is) (row_has at d x name alias presence t rs listed has))

-- by what is found under the name and under the alias
row_by : (presence : Presence) (s : Shape) (f : Listing) (at name : List ℕ) (alias : Option (List ℕ)) (d : Data) (found : Option Data) (x : Report) → get name d ≡ found → get_second alias d ≡ None
    → Contains (member_violations presence s f (under_name at name) found) x → Contains (row_violations presence s f at name alias d) x
row_by presence s f at name None d found x e h has = subst (λ o. Contains (member_violations presence s f (under_name at name) o) x) (sym e) has
row_by presence s f at name (Some other) d found x e h has =
    subst (λ o. Contains (either_violations presence s f at name other (get name d) o) x) (sym h)
    (subst (λ o. Contains (member_violations presence s f (under_name at name) o) x) (sym e) has)

row_by_alias : (presence : Presence) (s : Shape) (f : Listing) (at name other : List ℕ) (d c : Data) (x : Report) → get name d ≡ None → get other d ≡ Some c
    → Contains (member_violations presence s f (under_name at other) (Some c)) x → Contains (row_violations presence s f at name (Some other) d) x
row_by_alias presence s f at name other d c x e h has =
    subst (λ o. Contains (either_violations presence s f at name other (get name d) o) x) (sym h)
    (subst (λ o. Contains (either_violations presence s f at name other o (Some c)) x) (sym e) has)

both_has : (presence : Presence) (s : Shape) (f : Listing) (at name other : List ℕ) (found beside : Option Data) → is_some found ≡ true → is_some beside ≡ true
    → Contains (either_violations presence s f at name other found beside) (under_name at name, no_alias other)
both_has presence s f at name other found None e h = cc
both_has presence s f at name other None (Some c) e h = cc
both_has presence s f at name other (Some b) (Some c) e h = one (under_name at name, no_alias other)

pub has_members : (name : List ℕ) (d : Data) → is_some (get name d) ≡ true → is_object d ≡ true
has_members name null e = e
has_members name (boolean b) e = e
has_members name (number n) e = e
has_members name (string t) e = e
has_members name (array ds) e = e
has_members name (object ms) e = refl

-- ---- what is wrong with a part is listed of it

here : (s : Shape) (at : List ℕ) (d : Data) (p : List ℕ) (x : Expectation) → IsWrong s d at p x → Contains (violations s at d) (p, x)
here s at d p (a_value k) wrong =
    let (e, h, bad) = wrong in
    let bad' : is_of_kind (kind_of s) d ≡ false = ap (λ j. is_of_kind j d) (sym h) ∙ bad in
    let same : (at, a_value (kind_of s)) ≡ (p, a_value k) = cc in
    subst (Contains (violations s at d)) same (value_has s at d bad')
here s at d p (a_member k) wrong =
    let (name, alias, t, lists, e, h, is, absent, none) = wrong in
    let same : (under_name at name, a_member (kind_of t)) ≡ (p, a_member k) = cc in
    subst (Contains (violations s at d)) same
    (member_has at s d (under_name at name, a_member (kind_of t)) name alias required t lists is
    (row_by required t (violations t) at name alias d None (under_name at name, a_member (kind_of t)) absent none (one (under_name at name, a_member (kind_of t)))))
here s at d p (no_alias other) wrong =
    let (name, presence, t, lists, e, this, that) = wrong in
    let same : (under_name at name, no_alias other) ≡ (p, no_alias other) = ap (λ q. (q, no_alias other)) (sym e) in
    subst (Contains (violations s at d)) same
    (member_has at s d (under_name at name, no_alias other) name (Some other) presence t lists (has_members name d this)
    (both_has presence t (violations t) at name other (get name d) (get other d) this that))

-- ---- what is listed of a part is listed of the whole

each_has : (f : Listing) (at : List ℕ) (c : Data) (x : Report) (i j : ℕ) (ds : Items) → get_item i ds ≡ Some c → Contains (f (under_index at (j + i)) c) x → Contains (of_each f at j ds) x
each_has f at c x i j no_items e has = cc
each_has f at c x zero j (item d ds) e has =
    let same : c ≡ d = cc in
    let index : j + 0 ≡ j = omega arith in
    Contains-append_left (f (under_index at j) d) (of_each f at (j + 1) ds) x
    (subst (λ b. Contains (f (under_index at j) b) x) same (subst (λ n. Contains (f (under_index at n) c) x) index has))
each_has f at c x (suc i) j (item d ds) e has =
    let index : j + suc i ≡ (j + 1) + i = omega arith in
    Contains-append_right (f (under_index at j) d) (of_each f at (j + 1) ds) x
    (each_has f at c x i (j + 1) ds e (subst (λ n. Contains (f (under_index at n) c) x) index has))

each_member_has : (f : Listing) (at key : List ℕ) (c : Data) (x : Report) (ms : Members) → Have ms key c → Contains (f (under_name at key) c) x → Contains (of_each_member f at ms) x
each_member_has f at key c x no_members e has = absurd e
each_member_has f at key c x (member k d ms) (inl same) has =
    Contains-append_left (f (under_name at k) d) (of_each_member f at ms) x
    (subst (λ b. Contains (f (under_name at k) b) x) same.1 (subst (λ n. Contains (f (under_name at n) c) x) same.0 has))
each_member_has f at key c x (member k d ms) (inr e) has =
    Contains-append_right (f (under_name at k) d) (of_each_member f at ms) x (each_member_has f at key c x ms e has)

null_has : (f : Listing) (at : List ℕ) (c : Data) (x : Report) (b : Bool) → b ≡ false → Contains (f at c) x → Contains (cond b [] (f at c)) x
null_has f at c x true e has = cc
null_has f at c x false e has = has

found_has : (presence : Presence) (s : Shape) (f : Listing) (at : List ℕ) (c : Data) (x : Report) → is_as_absent presence c ≡ false → Contains (f at c) x → Contains (member_violations presence s f at (Some c)) x
found_has required s f at c x counts has = has
found_has (defaulted p) s f at c x counts has = has
found_has optional s f at c x counts has = null_has f at c x (is_some (as_null c)) counts has
found_has nullable s f at c x counts has = null_has f at c x (is_some (as_null c)) counts has
found_has unless_empty s f at c x counts has = null_has f at c x (is_some (as_null c)) counts has

stands_has : (at name : List ℕ) (alias : Option (List ℕ)) (presence : Presence) (t : Shape) (d : Data) (key : List ℕ) (c : Data) (x : Report) → StandsUnder name alias d key c → is_as_absent presence c ≡ false
    → Contains (violations t (under_name at key) c) x → Contains (row_violations presence t (violations t) at name alias d) x
stands_has at name alias presence t d key c x (there, inl (same, none)) counts has =
    row_by presence t (violations t) at name alias d (Some c) x (ap (λ k. get k d) (sym same) ∙ there) none
    (subst (λ k. Contains (member_violations presence t (violations t) (under_name at k) (Some c)) x) same (found_has presence t (violations t) (under_name at key) c x counts has))
stands_has at name alias presence t d key c x (there, inr (same, absent)) counts has =
    subst (λ a. Contains (row_violations presence t (violations t) at name a d) x) (sym same)
    (row_by_alias presence t (violations t) at name key d c x absent there (found_has presence t (violations t) (under_name at key) c x counts has))

below : (step : Step) (at : List ℕ) (s t : Shape) (d c : Data) (x : Report) → StepsTo s d step t c → Contains (violations t (spelled at (step ∷ [])) c) x → Contains (violations s at d) x
below (to_item i) at s t d c x (same, (ds, is, e)) has =
    let index : 0 + i ≡ i = omega arith in
    subst (λ u. Contains (violations u at d) x) (sym same)
    (subst (λ o. Contains (items_violations (list t) (violations t) at o) x) (sym is)
    (each_has (violations t) at c x i 0 ds e (subst (λ n. Contains (violations t (under_index at n) c) x) (sym index) has)))
below (to_member key) at s t d c x (inl (same, (ms, is, e))) has =
    subst (λ u. Contains (violations u at d) x) (sym same)
    (subst (λ o. Contains (members_violations (shape.map t) (violations t) at o) x) (sym is) (each_member_has (violations t) at key c x ms e has))
below (to_member key) at s t d c x (inr (name, alias, presence, lists, under, counts)) has =
    member_has at s d x name alias presence t lists (has_members key d (ap is_some under.0)) (stands_has at name alias presence t d key c x under counts has)

along : (way : List Step) (at : List ℕ) (s t : Shape) (d part : Data) (x : Report) → Wants s d way t part → IsWrong t part (spelled at way) x.0 x.1 → Contains (violations s at d) x
along [] at s t d part x (same, is) wrong =
    here s at d x.0 x.1 (subst (λ u. IsWrong u d at x.0 x.1) same (subst (λ c. IsWrong t c at x.0 x.1) is wrong))
along (to_member key ∷ way) at s t d part x (u, c, steps, wants) wrong =
    below (to_member key) at s u d c x steps (along way (under_name at key) u t c part x wants wrong)
along (to_item i ∷ way) at s t d part x (u, c, steps, wants) wrong =
    below (to_item i) at s u d c x steps (along way (under_index at i) u t c part x wants wrong)

-- each that is one is listed
pub is_listed : (s : Shape) (at : List ℕ) (d : Data) (x : Report) → IsViolationAt at s d x → Contains (violations s at d) x
is_listed s at d x it = let (way, t, part, wants, wrong) = it in along way at s t d part x wants wrong
